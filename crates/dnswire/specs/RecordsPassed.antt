-- No public clause cites this module. What the records of a query say.
use Rattle.std.specs.Prelude.{◌≡◌, ℕ, ◌+◌, List, length, Option}
use Rattle.dnswire.specs.InTurn.{StandInTurn}
use Rattle.dnswire.specs.Query.{AreOpts, opts_of}
use Rattle.dnswire.specs.RrHead.{RrHead, IsRrHead}
use Rattle.dnswire.specs.declared.edns.Edns.{Edns}
use Rattle.dnswire.specs.declared.header.Header.{Header}

-- from the offset on stand as many records as the header says, and this is what the OPT records of the additional section
-- say
pub record HasRecords (octets : List ℕ) (at : ℕ) (header : Header) (edns : Option Edns) (version : ℕ) : Type 0 where
  pub passed : List RrHead
  pub additional_at : ℕ
  pub front : StandInTurn (IsRrHead octets) at passed additional_at
  pub passed_are : length passed ≡ header.answers + header.authorities
  pub additional : List RrHead
  pub end : ℕ
  pub back : StandInTurn (IsRrHead octets) additional_at additional end
  pub additional_are : length additional ≡ header.additionals
  pub opts : AreOpts (opts_of additional) edns version
