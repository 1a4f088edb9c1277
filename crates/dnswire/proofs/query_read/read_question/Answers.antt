use Rattle.std.proofs.Common.{◌+◌, subst, sym}
use Rattle.dname.specs.Read.{Spells}
use Rattle.dname.proofs.ReadLemmas.{one_name}
use Rattle.dnswire.specs.Question.{AreQuestionFields}
use Rattle.dnswire.specs.declared.header.TheConstants.{HEADER_OCTETS}
use Rattle.dnswire.proofs.QueryLemmas.{records_of}
use Rattle.dnswire.proofs.query_read.read_question.Goals as goal

pub returns-in_default : goal.returns-in_default
returns-in_default c = (
  c.args.header,
  c.requires,
  c.head-in_default.ensures,
  λ question version query.
      absurd (c.in_default.not-Ok _ (c.read.ensures.every_name _ _ (subst (λ l. Spells l question.name query.taken) (sym c.octets_from.ensures) query.name))),
)

pub returns-in_default-read : goal.returns-in_default-read
returns-in_default-read c =
    let spells = subst (λ l. Spells l c.in-Ok.name c.in-Ok.taken) c.octets_from.ensures c.in-Ok.ensures.read in (
      c.args.header,
      c.requires,
      c.head-in_default-read.ensures,
      λ question version query.
          let same = one_name _ _ _ _ _ query.name spells in
          let given = c.in_default-read.ensures.every query.fields (subst (λ n. AreQuestionFields c.args.octets.now (HEADER_OCTETS + n) query.fields) same.1 query.reads) in
          absurd cc,
    )

pub returns-in_default-read_records : goal.returns-in_default-read_records
returns-in_default-read_records c =
    let spells = subst (λ l. Spells l c.in-Ok.name c.in-Ok.taken) c.octets_from.ensures c.in-Ok.ensures.read in (
      c.args.header,
      c.requires,
      c.head-in_default-read_records.ensures,
      λ question version query.
          absurd (c.in_default-read_records.ensures.none question.edns version (records_of _ _ question version _ _ c.in-Some.fields query spells c.in-Some.ensures.read)),
    )
