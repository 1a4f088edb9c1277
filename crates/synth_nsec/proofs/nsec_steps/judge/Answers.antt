use Rattle.soundness.specs.Sound.{IsSound}
use Rattle.soundness.proofs.SoundLemmas.{of_proof}
use Rattle.synth_nsec.proofs.nsec_steps.judge.Goals as goal

pub returns-clause-sound : goal.returns-clause-sound
returns-clause-sound g c =
    let zone = g.Z.HeldZone.zone c.args.zone.now in
    λ asked. of_proof (IsSound c.args.name.now c.args.qtype) _ _ c.nsec_proof.ensures
    (λ proof is. c.each_nsec_proof_is_sound.ensures zone.held c.args.now zone.apex c.args.name.now c.args.qtype proof asked is)
