-- No public clause cites this module: what the NSEC record that speaks of a name says of it.
use Rattle.std.specs.Prelude.{List, IsTrue}
use Rattle.dname.specs.Name.{Label}
use Rattle.denial_records.specs.declared.nsec_rec.NsecRec.{NsecRec}
use Rattle.cache_meaning.specs.Zones.{IsInArc}
use Rattle.cache_meaning.specs.Evidence.{nsec_matches, nsec_shows_empty, nsec_covers}
use Rattle.synth_nsec.specs.declared.nsec_evidence.NsecEvidence.{NsecEvidence}
use Rattle.synth_nsec.specs.declared.nsec_evidence.NsecEvidence.TheVariants.{Matches, ShowsEmpty, Covers}

-- the record itself
abbrev pub record_of : NsecEvidence → NsecRec
record_of (Matches matching) = matching.now
record_of (ShowsEmpty covering) = covering.now
record_of (Covers covering) = covering.now

-- the record matches the name, shows it empty, or covers it inside its arc
abbrev pub Says : List Label → NsecEvidence → Type 0
Says name (Matches matching) = IsTrue (nsec_matches matching.now name)
Says name (ShowsEmpty covering) = IsTrue (nsec_shows_empty covering.now name)
Says name (Covers covering) = IsInArc name covering.now × IsTrue (nsec_covers covering.now name)
