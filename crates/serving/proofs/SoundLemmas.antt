-- The cache's replies are those of proofs, and so are sound.
use Rattle.std.proofs.Common.{◌≡◌, ℕ, List, length, Option, None, Some, refl, sym, ◌∙◌, ap}
use Rattle.std.specs.Option.{option_map}
use Rattle.dnswire.specs.Query.{IsReadAs}
use Rattle.dnswire.specs.declared.message.Message.{Message}
use Rattle.dnswire.specs.declared.question.Question.{Question}
use Rattle.dnswire.specs.declared.query_read.QueryRead.{QueryRead}
use Rattle.dnswire.specs.declared.query_read.QueryRead.TheVariants as reads
use Rattle.denial_records.specs.Proof.{Proof}
use Rattle.denial_records.specs.declared.batch.Batch.{Batch}
use Rattle.cache_meaning.specs.Held.{held_of}
use Rattle.soundness.proofs.QueryLemmas.{outcome_sound}
use Rattle.reply_core.specs.Answered.{proof_in, proof_octets}
use Rattle.serving.specs.Pending.{Entry, Slot, least_free, table_at}
use Rattle.outside_core.specs.declared.datagram.Datagram.{Datagram}
use Rattle.outside_core.specs.declared.datagram.Peer.{Peer}
use Rattle.outside_core.specs.declared.datagram.Peer.TheVariants as peers
use Rattle.serving.specs.declared.deed.Deed.{Deed}
use Rattle.serving.specs.declared.deed.Deed.TheVariants as deeds
use Rattle.serving.specs.declared.why.Why.TheVariants as whys
use Rattle.serving.specs.Done.{Done, IsDone, IsDoneBy, IsDoneOf, IsUpstreamDone, asked, awaited, client_done, queried}
use Rattle.serving.specs.Sound.{IsSoundDone}

-- ---- deeds that no proof stands behind

abbrev IsUnproved : Deed → Type 0
IsUnproved deed = (client version : ℕ) → deed ≡ deeds.ToClient client (whys.Answered version) → ⊥

quiet : IsUnproved deeds.Quiet
quiet = λ client version is. cc

ignored : IsUnproved deeds.Ignored
ignored = λ client version is. cc

to_upstream : IsUnproved deeds.ToUpstream
to_upstream = λ client version is. cc

fault_told : (number : ℕ) → IsUnproved (deeds.ToClient number whys.Error)
fault_told number = λ client version is. cc

failure_told : (number : ℕ) → IsUnproved (deeds.ToClient number whys.ServFail)
failure_told number = λ client version is. cc

answer_relayed : (number : ℕ) → IsUnproved (deeds.ToClient number whys.Relayed)
answer_relayed number = λ client version is. cc

unproved : (seen : List Batch) (now : ℕ) (received : List ℕ) (done : Done) (deed : Deed) → done.deed ≡ deed → IsUnproved deed → IsSoundDone seen now received done
unproved seen now received done deed is none = λ client version answered. absurd (none client version (sym is ∙ answered))

-- ---- a client's datagram

asked_sound : (seen : List Batch) (now : ℕ) (received : List ℕ) (table : List Slot) (client : ℕ) (question : Question) (place : Option ℕ) (done : Done)
    → done ≡ asked table now client question place → IsSoundDone seen now received done
asked_sound seen now received table client question None done is = unproved seen now received done (deeds.ToClient client whys.ServFail) (ap (λ d. d.deed) is) (failure_told client)
asked_sound seen now received table client question (Some place) done is = unproved seen now received done deeds.ToUpstream (ap (λ d. d.deed) is) to_upstream

queried_sound : (seen : List Batch) (now : ℕ) (received : List ℕ) (table : List Slot) (version client : ℕ) (question : Question) (found : Option Proof) (done : Done)
    → IsReadAs received (reads.Query question) → proof_in (held_of seen) question now ≡ found
    → done ≡ queried table now version client question (option_map (proof_octets question now) found) → IsSoundDone seen now received done
queried_sound seen now received table version client question None done asks found is =
    asked_sound seen now received (table_at now table) client question (least_free (table_at now table)) done is
queried_sound seen now received table version client question (Some proof) done asks found is = λ other number answered. record {
  question = question;
  asks = asks;
  proof = proof;
  proves = found;
  written = ap (λ d. d.octets) is;
  sound = (outcome_sound (held_of seen) now question.name question.qtype question.qclass proof found).sound;
}

client_sound : (seen : List Batch) (now : ℕ) (received : List ℕ) (table : List Slot) (client : ℕ) (read : QueryRead) (done : Done)
    → IsReadAs received read → done ≡ client_done table now seen client read → IsSoundDone seen now received done
client_sound seen now received table client reads.Dropped done asks is = unproved seen now received done deeds.Quiet (ap (λ d. d.deed) is) quiet
client_sound seen now received table client (reads.NotImp head) done asks is = unproved seen now received done (deeds.ToClient client whys.Error) (ap (λ d. d.deed) is) (fault_told client)
client_sound seen now received table client (reads.FormErr head) done asks is = unproved seen now received done (deeds.ToClient client whys.Error) (ap (λ d. d.deed) is) (fault_told client)
client_sound seen now received table client (reads.BadVers question) done asks is = unproved seen now received done (deeds.ToClient client whys.Error) (ap (λ d. d.deed) is) (fault_told client)
client_sound seen now received table client (reads.Query question) done asks is =
    queried_sound seen now received table (length seen) client question (proof_in (held_of seen) question now) done asks refl is

-- ---- the upstream's datagram

relayed_sound : (seen : List Batch) (now : ℕ) (received : List ℕ) (table : List Slot) (message : Message) (entry : Option Entry) (done : Done)
    → IsDoneOf table now received message entry done → IsSoundDone seen now received done
relayed_sound seen now received table message None done is = unproved seen now received done deeds.Ignored (ap (λ d. d.deed) is) ignored
relayed_sound seen now received table message (Some entry) done is =
    unproved seen now received done (deeds.ToClient entry.client whys.Relayed) (ap (λ d. d.deed) is.2) (answer_relayed entry.client)

upstream_sound : (seen : List Batch) (now : ℕ) (received : List ℕ) (table : List Slot) (answer : Option Message) (done : Done)
    → IsUpstreamDone table now received answer done → IsSoundDone seen now received done
upstream_sound seen now received table None done is = unproved seen now received done deeds.Ignored (ap (λ d. d.deed) is) ignored
upstream_sound seen now received table (Some message) done is = relayed_sound seen now received table message (awaited table message) done is

-- ---- any datagram

sound_by : (table : List Slot) (now : ℕ) (seen : List Batch) (peer : Peer) (received : List ℕ) (done : Done) → IsDoneBy table now seen peer received done → IsSoundDone seen now received done
sound_by table now seen (peers.Client client) received done is = client_sound seen now received table client is.0 done is.1 is.2
sound_by table now seen peers.Upstream received done is = upstream_sound seen now received table is.0 done is.2

pub done_sound : (table : List Slot) (now : ℕ) (seen : List Batch) (datagram : Datagram) (done : Done) → IsDone table now seen datagram done → IsSoundDone seen now datagram.octets done
done_sound table now seen datagram done is = sound_by table now seen datagram.peer datagram.octets done is
