use Rattle.std.proofs.Common.{◌∙◌, ap}
use Rattle.encloser.specs.Encloser.{encloser_of}
use Rattle.cache_meaning.proofs.CoveredLemmas.{covered_apart}
use Rattle.synth_nsec.proofs.source.source_of.Goals as goal

pub wildcard_below-requires-clause-apart : goal.wildcard_below-requires-clause-apart
wildcard_below-requires-clause-apart c = λ e. covered_apart c.args.covering.nsec.now.owner c.args.covering.nsec.now.next c.args.name.now c.requires.inside c.requires.covered
    (e ∙ c.common_encloser.ensures.value ∙ ap (λ owner. encloser_of c.args.name.now owner c.next.result) c.owner.ensures ∙ ap (encloser_of c.args.name.now c.args.covering.nsec.now.owner) c.next.ensures)
