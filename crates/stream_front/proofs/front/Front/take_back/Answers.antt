use Rattle.std.proofs.Common.{◌∙◌, ap}
use Rattle.stream_front.specs.Split.{Rest}
use Rattle.stream_front.proofs.FrontLemmas.{rest_left}
use Rattle.stream_front.proofs.front.Front.take_back.Goals as goal

pub returns : goal.returns
returns c rest piece size is =
    let was = rest_left _ _ _ (c.self.view_is ∙ is) in
    rw was.0 (ap Rest (c.cut.ensures rest piece size was.1))
