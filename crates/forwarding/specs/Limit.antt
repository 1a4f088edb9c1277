-- How long a reply may be.
use Rattle.std.specs.Prelude.{ℕ, Option}
use Rattle.arrivals.specs.declared.carrier.Carrier.{Carrier}
use Rattle.arrivals.specs.declared.carrier.Carrier.TheVariants.{Datagram, Stream}
use Rattle.dnswire.specs.declared.edns.Edns.{Edns}
use Rattle.reply_core.specs.Reply.{limit_of}
use Rattle.reply_core.specs.declared.draft.TheConstants.{MAX_LONG_REPLY}

-- by a datagram what the client takes; by a stream all that a message there can have, whatever the client takes by datagrams
-- (RFC 1035, section 4.2.2; RFC 7766, section 8)
abbrev pub limit_for : Carrier → Option Edns → ℕ
limit_for Datagram edns = limit_of edns
limit_for Stream edns = MAX_LONG_REPLY
