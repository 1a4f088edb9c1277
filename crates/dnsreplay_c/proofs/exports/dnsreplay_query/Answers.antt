use Rattle.std.proofs.Common.{◌≡◌, ◌∙◌, Some, sym, ap, subst, ℤ, w32}
use Rattle.std.proofs.lemmas.Int.{to_z-of_z}
use Rattle.std.specs.Prelude.{◌↔◌}
use Rattle.resolver.specs.Queried.{HasAnswer}
use Rattle.resolver.specs.declared.answering.Answering.TheVariants.{ByProof}
use Rattle.dnsreplay_c.specs.declared.code.TheConstants.{DONE}
use Rattle.dnsreplay_c.proofs.CallLemmas.{query_exact, query_sound}
use Rattle.dnsreplay_c.proofs.exports.dnsreplay_query.Goals as goal

pub returns-clause-exact : goal.returns-clause-exact
returns-clause-exact c = λ held opened enough.
    subst (λ (code : ℤ). (code ≡ DONE) ↔ HasAnswer ByProof held c.args.octets.now c.args.now) (sym (to_z-of_z w32 c.reply-code.result (record { sfits = c.reply-code.type_inv })))
    (query_exact (Some c.deref.result.now) held c.args.octets.now c.args.now c.reply-code.result c.args.room.now c.reply-code.new.room c.args.written.now c.reply-code.new.written c.reply-code.ensures (ap Some c.deref.ensures ∙ c.in-Some.ensures.had ∙ opened) enough)

pub returns-clause-sound : goal.returns-clause-sound
returns-clause-sound c = λ held opened done.
    query_sound (Some c.deref.result.now) held c.args.octets.now c.args.now c.reply-code.result c.args.room.now c.reply-code.new.room c.args.written.now c.reply-code.new.written c.reply-code.ensures (ap Some c.deref.ensures ∙ c.in-Some.ensures.had ∙ opened) (sym (to_z-of_z w32 c.reply-code.result (record { sfits = c.reply-code.type_inv })) ∙ done)
