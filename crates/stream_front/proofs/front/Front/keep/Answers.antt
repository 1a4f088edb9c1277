use Rattle.std.proofs.Common.{◌-◌, ◌∙◌, ap, drop, length}
use Rattle.stream_front.specs.Split.{Rest, rest_in}
use Rattle.stream_front.proofs.FrontLemmas.{rest_is, rest_left}
use Rattle.stream_front.proofs.front.Front.keep.Goals as goal

pub returns : goal.returns
returns c =
    let was = rest_left _ _ (rest_in c.args.self.now) (c.self.view_is ∙ rest_is c.args.self.now c.requires.open) in
    rw was.0 (ap Rest (c.keep.ensures ∙ ap (λ l. drop (length l - c.args.count) l) was.1))
