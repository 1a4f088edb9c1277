-- The proof that a verdict shows: what its references lend.
use Rattle.std.specs.Prelude.{List, ◌++◌, Option}
use Rattle.std.specs.Option.{option_map, option_copied, option_to_list}
use Rattle.denial_records.specs.Proof.{Proof, denied_by}
use Rattle.denial_records.specs.declared.record.Record.{Record}
use Rattle.denial_records.specs.declared.verdict.Denial.{Denial}
use Rattle.denial_records.specs.declared.verdict.Verdict.{Verdict}

-- the record of a place for a denial, where there is one
abbrev pub denial_in : Option Denial → List Record
denial_in place = option_to_list (option_map denied_by place)

-- its denials are those of the three places, in order
abbrev pub shown_by : Verdict → Proof
shown_by verdict = record {
  kind = verdict.kind;
  answer = option_copied verdict.answer_set;
  soa = option_copied verdict.soa;
  denials = denial_in verdict.first ++ denial_in verdict.second ++ denial_in verdict.third;
}
