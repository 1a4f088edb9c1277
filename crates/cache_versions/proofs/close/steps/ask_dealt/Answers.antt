use Rattle.std.proofs.Common.{◌≡◌, length, subst}
use Rattle.cache_versions.specs.Hands.{AreAllBelow}
use Rattle.cache_versions.specs.Kin.{journal_of}
use Rattle.cache_versions.proofs.close.steps.ask_dealt.Goals as goal

pub returns-else-dealt-deref : goal.returns-else-dealt-deref
returns-else-dealt-deref g c =
    let last = c.args.last.now in
    let same : c.close-dealt.result ≡ length (journal_of last) = rw (c.deref.ensures, last.counted) at c.if-dealt-deref.false in
    subst (λ n. AreAllBelow n c.args.all.me.0.places) same c.close-dealt.ensures
