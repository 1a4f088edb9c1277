use Rattle.std.proofs.Common.{inl, sym, ◌∙◌}
use Rattle.zone_chains_tests.proofs.zone_records.come_and_gone.Goals as goal

pub without-requires : goal.without-requires
without-requires c = (c.in_ok-made.ensures.records c.deref-2.result.now).1 (inl (c.deref-2.ensures ∙ sym c.in_ok-try_clone.ensures))
