use Rattle.std.proofs.Common.{sym}
use Rattle.page_list.specs.Marks.{value_of}
use Rattle.page_list.proofs.Pages.{page_turned, entry_read}
use Rattle.page_list.proofs.iter.IterIterator.next.Goals.{then-is_empty+else-self-len, else-is_empty}
use Rattle.page_list.proofs.iter.IterIterator.next.Goals as goal

pub returns-clause-steps : goal.returns-clause-steps
returns-clause-steps g c =
    elim c.if-is_empty.branch [
      | then-is_empty+else-self-len w ↦
          rw w.self-inside-is
          (entry_read value_of _ _ _ _ _ _ (rw w.self-inside-is at c.in_ok-entry.ensures.cases.0) c.share.ensures
          (page_turned value_of c.self.inside.page.now _ c.self.inside.list.now _ c.self.inside.end (rw c.is_empty.ensures at w.if-is_empty.true) c.self.view_is w.page_from-self-inside.ensures.entries))
      | else-is_empty w ↦
          rw w.self-inside-is (entry_read value_of _ _ _ _ _ _ (rw w.self-inside-is at c.in_ok-entry.ensures.cases.0) c.share.ensures (sym c.self.view_is))
    ]
