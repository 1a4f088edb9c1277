-- No public clause cites this module: what the code's values are, in the words of the definitions.
use Rattle.std.specs.Prelude.{List}
use Rattle.dname.specs.Name.{Label}
use Rattle.denial_records.specs.declared.record.Record.{Record}
use Rattle.cache_meaning.specs.Held.{Chain, NsecChain, Nsec3Chain}
use Rattle.zone_chains.specs.Zone.{OneChain}
use Rattle.zone_chains.specs.declared.chain_records.ChainSpans.{ChainSpans}
use Rattle.zone_chains.specs.declared.chain_records.ChainSpans.TheVariants.{Nsec, Nsec3}

abbrev pub kind_by : ChainSpans → Chain
kind_by (Nsec arcs) = NsecChain
kind_by (Nsec3 salt iterations arcs) = Nsec3Chain (record { salt = salt; iterations = iterations })

abbrev pub records_by : ChainSpans → List Record
records_by (Nsec arcs) = arcs
records_by (Nsec3 salt iterations arcs) = arcs

abbrev pub chain_by : List Label → ChainSpans → OneChain
chain_by zone spans = record {
  chain = record { zone = zone; chain = kind_by spans };
  records = records_by spans;
}
