use Rattle.std.proofs.Common.{length, arith, refl, ap, ◌∙◌}
use Rattle.page_list.specs.Marks.{mark_of}
use Rattle.page_list.specs.Rows.{end_of}
use Rattle.page_list.proofs.InPlace.{changed_entries, changed_shelf, few_more, long_behind, new_is, old_is, read_same, room_behind, slot_start, slot_total}
use Rattle.page_list.proofs.in_place.replace_at.Goals as goal

pub overflow_sub-start : goal.overflow_sub-start
overflow_sub-start g c =
    let f = g.B.Block.entries in
    let slots = c.args.slots.now.items in
    let was = c.index-2.result.now in
    let is_old = old_is f slots c.args.p c.len-old.result c.index.result.now was c.deref.result.now _ c.requires.in_range c.index.ensures c.index-2.ensures c.deref.ensures c.share.ensures c.len-old.ensures in
    omega (arith, c.end.ensures, slot_start mark_of f slots c.args.p c.len-old.result was c.requires.shelf c.requires.in_range c.index-2.ensures is_old)

pub replace-requires-clause-room : goal.replace-requires-clause-room
replace-requires-clause-room g c =
    let f = g.B.Block.entries in
    let slots = c.args.slots.now.items in
    let was = c.index_mut.result.now in
    let is = c.index_mut.ensures.value in
    let is_old = old_is f slots c.args.p c.len-old.result c.index.result.now was c.deref.result.now _ c.requires.in_range c.index.ensures is c.deref.ensures c.share.ensures c.len-old.ensures in
    let end_is = c.end.ensures ∙ ap end_of (read_same slots c.args.p c.index-2.result.now was c.requires.in_range c.index-2.ensures is) in
    omega (arith, end_is, is_old, slot_start mark_of f slots c.args.p c.len-old.result was c.requires.shelf c.requires.in_range is is_old, ap end_of is, slot_total mark_of f slots c.args.p was c.requires.shelf c.requires.in_range, c.requires.room)

pub shift_from-requires-clause-long : goal.shift_from-requires-clause-long
shift_from-requires-clause-long g c =
    let f = g.B.Block.entries in
    let slots = c.args.slots.now.items in
    let was = c.index_mut.result.now in
    let is = c.index_mut.ensures.value in
    let is_old = old_is f slots c.args.p c.len-old.result c.index.result.now was c.deref.result.now _ c.requires.in_range c.index.ensures is c.deref.ensures c.share.ensures c.len-old.ensures in
    long_behind mark_of f slots _ c.args.p c.len-old.result was c.replace.new.self c.requires.shelf c.requires.in_range is is_old refl

pub shift_from-requires-clause-room : goal.shift_from-requires-clause-room
shift_from-requires-clause-room g c =
    let f = g.B.Block.entries in
    let slots = c.args.slots.now.items in
    let was = c.index_mut.result.now in
    let is = c.index_mut.ensures.value in
    let slot = c.replace.new.self in
    let is_old = old_is f slots c.args.p c.len-old.result c.index.result.now was c.deref.result.now _ c.requires.in_range c.index.ensures is c.deref.ensures c.share.ensures c.len-old.ensures in
    let is_new = new_is f slots c.args.p c.len-new.result c.index-3.result.now slot c.deref-2.result.now _ c.requires.in_range c.index-3.ensures c.deref-2.ensures c.share-2.ensures c.len-new.ensures in
    room_behind mark_of f slots _ c.args.p c.len-old.result c.len-new.result (length c.args.items.now) was slot c.requires.shelf c.requires.in_range is is_old refl
    (few_more f slots c.args.p c.len-old.result c.len-new.result c.args.x c.args.y c.args.items.now was slot is is_old is_new c.requires.order c.requires.in_block (c.if-not-replace.ensures.done refl)) c.requires.room

pub returns-clause-shelf : goal.returns-clause-shelf
returns-clause-shelf g c =
    let f = g.B.Block.entries in
    let slots = c.args.slots.now.items in
    let was = c.index_mut.result.now in
    let is = c.index_mut.ensures.value in
    let slot = c.replace.new.self in
    let is_old = old_is f slots c.args.p c.len-old.result c.index.result.now was c.deref.result.now _ c.requires.in_range c.index.ensures is c.deref.ensures c.share.ensures c.len-old.ensures in
    let is_new = new_is f slots c.args.p c.len-new.result c.index-3.result.now slot c.deref-2.result.now _ c.requires.in_range c.index-3.ensures c.deref-2.ensures c.share-2.ensures c.len-new.ensures in
    let end_is = c.end.ensures ∙ ap end_of (read_same slots c.args.p c.index-2.result.now was c.requires.in_range c.index-2.ensures is) in
    changed_shelf mark_of f slots _ c.shift_from.new.slots.items c.args.p c.len-old.result c.len-new.result _ was slot c.requires.in_range is refl c.shift_from.ensures (c.if-not-replace.ensures.shelved refl) c.requires.shelf
    (omega (arith, end_is, slot_start mark_of f slots c.args.p c.len-old.result was c.requires.shelf c.requires.in_range is is_old)) is_old is_new

pub returns-clause-done : goal.returns-clause-done
returns-clause-done g c _ from to first last =
    changed_entries mark_of g.B.Block.entries c.args.slots.now.items _ c.shift_from.new.slots.items c.args.p c.len-old.result c.len-new.result _ c.index_mut.result.now c.replace.new.self c.requires.in_range c.index_mut.ensures.value refl c.shift_from.ensures (c.if-not-replace.ensures.shelved refl) c.args.items.now c.args.x c.args.y from to (c.if-not-replace.ensures.done refl) first last
