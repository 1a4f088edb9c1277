use Rattle.std.proofs.Common.{◌≡◌, List, Some, sym, subst, ◌∙◌}
use Rattle.std.specs.Cmp.Lexicographic.{pointwise_decides, bytes_decides}
use Rattle.dname.specs.Name.{Label}
use Rattle.synth_nsec3.specs.ChainAt.{chain_at}
use Rattle.synth_nsec3.specs.Nsec3Evidence.{IsFound}
use Rattle.synth_nsec3.specs.declared.nsec3_evidence.Nsec3Evidence.TheVariants.{Covers}
use Rattle.synth_nsec3.proofs.nsec3_steps.asked_before.Goals as goal

pub returns-then-eq : goal.returns-then-eq
returns-then-eq g c =
    let same : c.args.source.now ≡ c.args.next_closer.now = (pointwise_decides bytes_decides c.args.source.now c.args.next_closer.now).0 (sym c.eq.ensures ∙ c.if-eq.true) in
    subst (λ (name : List Label). IsFound (chain_at g.Z.HeldZone.zone c.args.chain.now) name (Some (Covers c.args.covering.nsec3))) (sym same) c.requires
