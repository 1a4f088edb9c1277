use Rattle.std.proofs.Common.{◌∙◌, sym, subst}
use Rattle.std.specs.List.{All}
use Rattle.replay_meaning.specs.Frame.{inputs_spelling}
use Rattle.replay_meaning.specs.Replay.{SpellsFrames}
use Rattle.running.specs.Made.{made_inputs}
use Rattle.running.proofs.MadeLemmas.{FitsAFrame, are_made, both_put, few_made, messages_fit, queries_fit}
use Rattle.running.proofs.RunLemmas.{made_by_one}
use Rattle.running.proofs.selfrun.made_outputs.Goals as goal

pub put_frames-requires : goal.put_frames-requires
put_frames-requires g c = subst (All FitsAFrame) (sym c.in_ok-made.ensures.messages) (messages_fit c.args.seed c.args.names)

pub put_frames-requires-2 : goal.put_frames-requires-2
put_frames-requires-2 g c = subst (All FitsAFrame) (sym c.in_ok-asked.ensures) (queries_fit c.args.seed c.args.names c.args.queries)

pub unreachable-requires : goal.unreachable-requires
unreachable-requires g c =
    let is = both_put c.args.seed c.args.names c.args.queries _ _ _ _ _ c.new-octets.ensures.items c.in_ok-put_frames.ensures c.in_ok-put_frames-2.ensures c.in_ok-made.ensures.messages c.in_ok-asked.ensures in
    c.in_default.ensures.frames (are_made c.args.seed c.args.names c.args.queries _ (c.deref.ensures.value ∙ is))

pub replay-requires-clause-few : goal.replay-requires-clause-few
replay-requires-clause-few g c = λ κs outlives.
    let is = both_put c.args.seed c.args.names c.args.queries _ _ _ _ _ c.new-octets.ensures.items c.in_ok-put_frames.ensures c.in_ok-put_frames-2.ensures c.in_ok-made.ensures.messages c.in_ok-asked.ensures in
    few_made c.args.seed c.args.names c.args.queries _ _ (c.deref.ensures.value ∙ is) c.in-Some.ensures.frames c.requires.names.1 c.requires.queries

pub returns-clause-replay : goal.returns-clause-replay
returns-clause-replay g c =
    let is = both_put c.args.seed c.args.names c.args.queries _ _ _ _ _ c.new-octets.ensures.items c.in_ok-put_frames.ensures c.in_ok-put_frames-2.ensures c.in_ok-made.ensures.messages c.in_ok-asked.ensures in
    made_by_one c.in_ok-outputs.outputs c.in-Some.frames (inputs_spelling (made_inputs c.args.seed c.args.names c.args.queries)) c.in_ok-outputs.ensures.all c.in_ok-outputs.ensures.merge c.in_ok-outputs.ensures.replay
    (subst (λ o. SpellsFrames 1 o c.in-Some.frames) (c.deref.ensures.value ∙ is) c.in-Some.ensures.frames)
