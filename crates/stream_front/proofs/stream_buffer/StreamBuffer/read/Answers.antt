use Rattle.std.proofs.Common.{ℕ, ◌+◌, ◌-◌, ◌≤◌, ◌++◌, length, take, ◌∙◌, ap, arith}
use Rattle.std.proofs.lemmas.List.{length-take-le}
use Rattle.stream_front.proofs.BufferLemmas.{length-part, stored_before, stored_behind}
use Rattle.stream_front.proofs.stream_buffer.StreamBuffer.read.Goals as goal

pub returns-in-Ok-clause-taken : goal.returns-in-Ok-clause-taken
returns-in-Ok-clause-taken g c =
    let lent = c.deref_mut.ensures in
    let came = c.in-Ok.ensures in
    let room = ap (λ b. b.room) c.self.view_is in
    let size : ℕ = c.self.inside.end + c.min.result - c.self.inside.end in
    let within : c.self.inside.end + (c.self.inside.end + c.min.result - c.self.inside.end) ≤ length c.deref_mut.result.now = omega (arith, c.min.ensures, c.len.ensures, c.self.invariant, ap length lent.value, lent.len) in
    let part = length-part c.deref_mut.result.now c.self.inside.end size within in
    record {
      octets = take c.in-Ok.count c.read.new.into;
      many = length-take-le c.in-Ok.count c.read.new.into (omega (arith, came.within, c.read.auto.into));
      last =
          stored_behind c.self.inside.store.items c.deref_mut.result.now c.read.new.into c.self.inside.store.len c.self.inside.start c.self.inside.end size c.in-Ok.count
          lent.value lent.len c.self.invariant.0 (omega (arith, within, lent.len)) (omega (arith, c.read.auto.into, part)) (omega (arith, came.within, part))
          ∙ ap (λ l. l ++ take c.in-Ok.count c.read.new.into) (ap (λ b. b.octets) c.self.view_is);
      taken_are = came.taken;
      left_are = came.left;
      end = λ none. came.end none (omega (arith, part, c.min.ensures, c.len.ensures, room, c.requires.room, c.requires.some, ap length lent.value, lent.len));
    }

pub returns-in-Err-clause-same : goal.returns-in-Err-clause-same
returns-in-Err-clause-same g c =
    let lent = c.deref_mut.ensures in
    let size : ℕ = c.self.inside.end + c.min.result - c.self.inside.end in
    let within : c.self.inside.end + (c.self.inside.end + c.min.result - c.self.inside.end) ≤ length c.deref_mut.result.now = omega (arith, c.min.ensures, c.len.ensures, c.self.invariant, ap length lent.value, lent.len) in
    let part = length-part c.deref_mut.result.now c.self.inside.end size within in
    stored_before c.self.inside.store.items c.deref_mut.result.now c.read.new.into c.self.inside.store.len c.self.inside.start c.self.inside.end size
    lent.value lent.len c.self.invariant.0 (omega (arith, within, lent.len)) (omega (arith, c.read.auto.into, part))
    ∙ ap (λ b. b.octets) c.self.view_is
