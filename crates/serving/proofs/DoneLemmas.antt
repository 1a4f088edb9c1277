-- What one datagram does, case by case.
use Rattle.std.proofs.Common.{◌≡◌, ℕ, ◌+◌, ◌*◌, ◌%◌, ◌⊎◌, inl, inr, List, [], Option, None, Some, ◌∙◌, ap}
use Rattle.dnswire.specs.declared.message.Message.{Message}
use Rattle.dnswire.specs.declared.wire_fault.WireFault.{WireFault}
use Rattle.dnswire.specs.declared.wire_fault.WireFault.TheVariants as wire_faults
use Rattle.std.specs.Prelude.{Result, Ok, Err}
use Rattle.dnswire.specs.declared.question.Question.{Question}
use Rattle.intake.specs.Batch.{Gives}
use Rattle.intake.specs.declared.taken.Taken.{Taken}
use Rattle.intake.specs.declared.intake_fault.IntakeFault.{IntakeFault}
use Rattle.reply_core.specs.Ask.{ask_octets}
use Rattle.reply_core.specs.Error.{plain_octets}
use Rattle.reply_core.specs.Relay.{relay_octets}
use Rattle.reply_core.specs.declared.rcode.TheConstants.{SERVER_FAILURE}
use Rattle.serving.specs.Pending.{Entry, Slot, entry_of, relayed_of, sent_from, turn_at, with_entry, without_entry}
use Rattle.serving.specs.declared.action.Action.TheVariants.{Send, ServFail, Relay, Ignored}
use Rattle.serving.specs.declared.deed.Deed.TheVariants as deeds
use Rattle.serving.specs.declared.why.Why.TheVariants as whys
use Rattle.serving.specs.Done.{IsDoneOf, asked, batch_in, done_as}

-- ---- what goes upstream

pub send_asks : (table : List Slot) (now client : ℕ) (question : Question) (place : Option ℕ) (id : ℕ) (octets : List ℕ) (table' : List Slot)
    → Send id ≡ sent_from table place → table' ≡ with_entry table place (entry_of client question now) → octets ≡ ask_octets question id
    → done_as deeds.ToUpstream octets table' None ≡ asked table now client question place
send_asks table now client question None id octets table' is left written = absurd cc
send_asks table now client question (Some place) id octets table' is left written =
    let same : id ≡ 256 * turn_at table place + place = cc in
    (λ i. done_as deeds.ToUpstream ((written ∙ ap (ask_octets question) same) i) (left i) None)

pub fail_asks : (table : List Slot) (now client : ℕ) (question : Question) (place : Option ℕ) (octets : List ℕ) (table' : List Slot)
    → ServFail ≡ sent_from table place → table' ≡ with_entry table place (entry_of client question now) → octets ≡ plain_octets question SERVER_FAILURE
    → done_as (deeds.ToClient client whys.ServFail) octets table' None ≡ asked table now client question place
fail_asks table now client question None octets table' is left written =
    (λ i. done_as (deeds.ToClient client whys.ServFail) (written i) (left i) None)
fail_asks table now client question (Some place) octets table' is left written = absurd cc

pub never_relays : (table : List Slot) (place : Option ℕ) (client : ℕ) (question : Question) → Relay client question ≡ sent_from table place → ⊥
never_relays table None client question is = cc
never_relays table (Some place) client question is = cc

pub never_ignores : (table : List Slot) (place : Option ℕ) → Ignored ≡ sent_from table place → ⊥
never_ignores table None is = cc
never_ignores table (Some place) is = cc

-- ---- what the upstream answers

pub ignore_done : (table : List Slot) (now : ℕ) (wire : List ℕ) (message : Message) (entry : Option Entry) (octets : List ℕ) (table' : List Slot)
    → Ignored ≡ relayed_of entry → table' ≡ without_entry table (message.id % 256) entry → octets ≡ []
    → IsDoneOf table now wire message entry (done_as deeds.Ignored octets table' None)
ignore_done table now wire message None octets table' is left none = (λ i. done_as deeds.Ignored (none i) (left i) None)
ignore_done table now wire message (Some entry) octets table' is left none = absurd cc

pub relay_done : (table : List Slot) (now : ℕ) (wire : List ℕ) (message : Message) (entry : Option Entry) (client : ℕ) (question : Question) (octets : List ℕ) (table' : List Slot) (given : Result Taken IntakeFault)
    → Relay client question ≡ relayed_of entry → table' ≡ without_entry table (message.id % 256) entry → octets ≡ relay_octets question message → Gives wire now given
    → IsDoneOf table now wire message entry (done_as (deeds.ToClient client whys.Relayed) octets table' (batch_in given))
relay_done table now wire message None client question octets table' given is left written gives = absurd cc
relay_done table now wire message (Some entry) client question octets table' given is left written gives =
    let whose : client ≡ entry.client = cc in
    let what : question ≡ entry.question = cc in
    (given, gives, λ i. done_as (deeds.ToClient (whose i) whys.Relayed) ((written ∙ ap (λ q. relay_octets q message) what) i) (left i) (batch_in given))

pub never_sends : (entry : Option Entry) (id : ℕ) → Send id ≡ relayed_of entry → ⊥
never_sends None id is = cc
never_sends (Some entry) id is = cc

pub never_fails : (entry : Option Entry) → ServFail ≡ relayed_of entry → ⊥
never_fails None is = cc
never_fails (Some entry) is = cc

-- ---- octets that aren't read

pub no_message : (whole : Result Message WireFault) (fault : WireFault) (message : Message) → whole ≡ Err fault → (fault ≡ wire_faults.OutOfMemory → ⊥) → (whole ≡ Ok message) ⊎ (whole ≡ Err wire_faults.OutOfMemory) → ⊥
no_message whole fault message failed other (inl is) = absurd cc
no_message whole fault message failed other (inr is) = other cc
