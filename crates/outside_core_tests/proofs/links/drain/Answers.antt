use Rattle.std.proofs.Common.{◌≡◌, List, ◌++◌, [], ◌∷◌, map, option_map, Option, Some, None, refl, sym, ap, append_assoc, length-append, ◌∙◌, arith}
use Rattle.std.proofs.lemmas.List.{map-append}
use Rattle.std.proofs.lemmas.List.Elements.{All-append, All-cons, All-nil}
use Rattle.outside_core.specs.declared.datagram.Datagram.{Datagram as Carried}
use Rattle.outside_core.specs.declared.event.Event.{Event as Told}
use Rattle.outside_core.specs.declared.event.Event.TheVariants.{Found}
use Rattle.outside_core.specs.Datagram.{IsClient}
use Rattle.outside_core.specs.Event.{one_more_told}
use Rattle.outside_core_tests.proofs.links.drain.Goals as goal

one_more : (told : Option (List Told)) (came : List Carried) (one : Carried) → one_more_told (option_map (λ before. before ++ map Found came) told) (Found one) ≡ option_map (λ before. before ++ map Found (came ++ one ∷ [])) told
one_more None came one = refl
one_more (Some before) came one = ap (λ (xs : List Told). Some xs)
    (append_assoc before (map Found came) (Found one ∷ []) ∙ ap (λ (xs : List Told). before ++ xs) (sym (map-append Found came (one ∷ []))))

pub loop-count-preserved : goal.loop-count-preserved
loop-count-preserved g c =
    let was = c.loop-count.invariant.found in
    let one = c.receive_waiting.new.into in
    let client : Carried → Type 0 = (λ d. IsClient d.peer) in
    let e = c.if-receive_waiting.ensures in
    record {
      within = omega (arith, c.loop-count-test.true);
      found = (
        was.0 ++ one ∷ [],
        omega (arith, length-append was.0 (one ∷ []), was.1),
        All-append client was.0 (one ∷ []) was.2 (All-cons client one [] (e.client refl) (All-nil client)),
        e.found refl ∙ ap (λ (told : Option (List Told)). one_more_told told (Found one)) was.3 ∙ one_more (g.L.Link.events c.args.link.now) was.0 one,
      );
      port = e.port ∙ c.loop-count.invariant.port;
      upstream = e.upstream ∙ c.loop-count.invariant.upstream;
      faults = e.faults ∙ c.loop-count.invariant.faults;
    }
