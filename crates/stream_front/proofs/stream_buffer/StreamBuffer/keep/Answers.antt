use Rattle.std.proofs.Common.{◌-◌, ◌≤◌, ◌∙◌, ap, drop, length, subst, sym}
use Rattle.stream_front.proofs.BufferLemmas.{last_of, none_of}
use Rattle.stream_front.proofs.stream_buffer.StreamBuffer.keep.Goals as goal

pub returns-then-count-eq0 : goal.returns-then-count-eq0
returns-then-count-eq0 c = none_of c.args.self.now.octets c.args.count c.if-count-eq0.true

pub returns : goal.returns
returns c =
    let octets = ap (λ b. b.octets) c.self.view_is in
    last_of c.self.inside.store.items c.self.inside.start c.self.inside.end c.args.count c.self.invariant.0 c.self.invariant.1 (subst (λ l. c.args.count ≤ length l) (sym octets) c.requires)
    ∙ ap (λ l. drop (length l - c.args.count) l) octets
