use Rattle.std.proofs.Common.{◌+◌, ◌-◌, ◌++◌, length, take, ◌∙◌, ap, arith}
use Rattle.std.proofs.lemmas.List.{take_all}
use Rattle.stream_front.proofs.BufferLemmas.{stored_behind}
use Rattle.stream_front.proofs.stream_buffer.StreamBuffer.add.Goals as goal

pub returns : goal.returns
returns c =
    let lent = c.deref_mut.ensures in
    let room = ap (λ b. b.room) c.self.view_is in
    let copied = c.copy_from_slice.ensures.after in
    stored_behind c.self.inside.store.items c.deref_mut.result.now c.copy_from_slice.new.self c.self.inside.store.len c.self.inside.start c.self.inside.end (c.self.inside.end + length c.args.piece.now - c.self.inside.end) (length c.args.piece.now)
    lent.value lent.len c.self.invariant.0 (omega (arith, c.requires, room, ap length lent.value, lent.len)) (omega (arith, ap length copied)) (omega arith)
    ∙ ap (λ l. l ++ take (length c.args.piece.now) c.copy_from_slice.new.self) (ap (λ b. b.octets) c.self.view_is)
    ∙ ap (λ l. c.args.self.now.octets ++ l) (ap (take (length c.args.piece.now)) copied ∙ take_all _ c.args.piece.now (omega arith))
