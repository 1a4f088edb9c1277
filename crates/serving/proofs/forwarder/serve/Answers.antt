use Rattle.std.proofs.Common.{rules, ◌≡◌, false}
use Rattle.std.specs.Prelude.{Err}
use Rattle.serving.specs.declared.serve_fault.ServeFault.TheVariants.{Link, OutOfMemory}
use Rattle.serving.proofs.ServedLemmas.{all_whole, failed_early, is_off, is_on, unbound_early, wanted_early}
use Rattle.serving.proofs.forwarder.serve.Goals as goal

pub returns-then-not-all-clause-early : goal.returns-then-not-all-clause-early
returns-then-not-all-clause-early g c =
    let off : c.in_ok-links.field-0.all ≡ false = search rules in
    let bound = c.in_ok-links.ensures in
    let some = is_off _ _ _ off bound.all in
    unbound_early c.args.service.now _ c.args.harbor.now c.part_all.new.harbor _ _ _ _ _ _ c.in_ok-links.field-0.links.items bound.came_back c.part_all.ensures.came_back c.part_all.ensures.counted some.1 some.0 bound.new

pub returns-in-Ok-clause-served : goal.returns-in-Ok-clause-served
returns-in-Ok-clause-served g c =
    all_whole c.args.service.now _ c.args.harbor.now c.part_all-2.new.harbor _ _ _ 0 _ _ c.serve_links-links.result.links.items c.in_ok-links.ensures.came_back c.part_all-2.ensures.came_back c.part_all-2.ensures.counted c.serve_links-links.result.ended c.in-Ok.is c.serve_links-links.ensures

pub returns-in-Err-Link-clause-early : goal.returns-in-Err-Link-clause-early
returns-in-Err-Link-clause-early g c =
    let is : c.serve_links-links.result.ended ≡ Err Link = search rules in
    failed_early c.args.service.now _ c.args.harbor.now c.part_all-2.new.harbor _ _ _ _ _ _ c.serve_links-links.result.links.items c.in_ok-links.ensures.came_back c.part_all-2.ensures.came_back c.part_all-2.ensures.counted c.serve_links-links.result.ended is (is_on _ _ _ c.if-not-all.false c.in_ok-links.ensures.all).1 c.serve_links-links.ensures

pub returns-in-Err-OutOfMemory-clause-early : goal.returns-in-Err-OutOfMemory-clause-early
returns-in-Err-OutOfMemory-clause-early g c =
    let is : c.serve_links-links.result.ended ≡ Err OutOfMemory = search rules in
    wanted_early c.args.service.now _ c.args.harbor.now c.part_all-2.new.harbor _ _ _ (g.H.Harbor.faults c.args.harbor.now) _ _ c.serve_links-links.result.links.items c.in_ok-links.ensures.came_back c.part_all-2.ensures.came_back c.part_all-2.ensures.counted c.serve_links-links.result.ended is c.serve_links-links.ensures
