use Rattle.forwarding.specs.Options.{option_octets}
use Rattle.forwarding.specs.ExtendedError.{synthesized_option}
use Rattle.resolver.specs.WalkReply.{walk_within}
use Rattle.forwarding.proofs.EndLemmas.{taken_is_data, walk_ends}
use Rattle.forwarding.proofs.told_laws.a_mark_is_an_option.Goals as goal

pub returns : goal.returns
returns c limit question walk ttl =
    let ends = walk_ends limit question walk ttl in
    (ends.front, ends.is, taken_is_data limit ends.front (option_octets synthesized_option) (walk_within limit question walk ttl) 0 question.edns ends.is)
