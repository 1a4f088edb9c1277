use Rattle.std.proofs.Common.{◌≡◌, ◌<◌, Ok, length, map, sym, ap, subst, ◌∙◌, arith, get_or}
use Rattle.std.specs.List.{All}
use Rattle.std.proofs.lemmas.List.{length-map, get_or-map}
use Rattle.std.proofs.lemmas.Simd.{map-map}
use Rattle.std.proofs.lemmas.Result.{IfOk-weaker}
use Rattle.facts.proofs.Lists.{some_of}
use Rattle.replay_meaning.specs.Frame.{Input}
use Rattle.resolver.specs.Caches.{IsSeatOf}
use Rattle.cache_versions.specs.Rows.{AreNumbered}
use Rattle.cache_versions.specs.Seats.{number_by}
use Rattle.worker_seats.specs.Cuts.{AreCut, AreCuts, Part, parts_of}
use Rattle.worker_seats.specs.Merge.{AreOutputsOf, AreMerged, CanBeMerged}
use Rattle.worker_seats.specs.Answering.{rule_of}
use Rattle.worker_seats.specs.Work.{IsShiftOf, IsWork, part_of}
use Rattle.worker_seats.specs.Workers.{HaveWorked}
use Rattle.worker_seats.proofs.MergeableLemmas.{can_merge}
use Rattle.worker_seats.proofs.WorkersLemmas.{if_ok_both, shift_at, results_length, outputs_at, worked_all, numbers_all, all_map}
use Rattle.worker_seats.proofs.workers.run_workers.Goals as goal

pub returns-clause-all : goal.returns-clause-all
returns-clause-all g c =
    let shifts = c.in_ok-shifts.shifts.items in
    let same : length shifts ≡ length c.args.seats.items = results_length c.in_ok-results.results.items shifts c.in_ok-shifts.ensures ∙ c.in_ok-results.ensures.all in
    IfOk-weaker c.split.result (λ done. done.0.items ≡ map (λ shift. shift.seat) shifts) (λ done. length done.0.items ≡ length c.args.seats.items) (λ done is. ap length is ∙ length-map shifts (λ shift. shift.seat) ∙ same) c.split.ensures.seats

pub returns-clause-each : goal.returns-clause-each
returns-clause-each g c =
    let shifts = c.in_ok-shifts.shifts.items in
    let same : length shifts ≡ length c.args.seats.items = results_length c.in_ok-results.results.items shifts c.in_ok-shifts.ensures ∙ c.in_ok-results.ensures.all in
    IfOk-weaker c.split.result (λ done. done.1 ≡ map part_of shifts) (λ done. length done.1 ≡ length c.args.seats.items) (λ done is. ap length is ∙ length-map shifts part_of ∙ same) c.split.ensures.parts

pub returns-clause-object : goal.returns-clause-object
returns-clause-object g c =
    let shifts = c.in_ok-shifts.shifts.items in
    let seats = c.args.seats.items in
    let same : length shifts ≡ length seats = results_length c.in_ok-results.results.items shifts c.in_ok-shifts.ensures ∙ c.in_ok-results.ensures.all in
    IfOk-weaker c.split.result (λ done. done.0.items ≡ map (λ shift. shift.seat) shifts) (λ done. All (λ s. IsSeatOf c.args.cache.now s) done.0.items) (λ done is. subst (All (λ s. IsSeatOf c.args.cache.now s)) (sym is)
    (all_map (λ s. IsSeatOf c.args.cache.now s) (λ shift. shift.seat) shifts
    (λ worker d lt. shift_at (λ shift. IsSeatOf c.args.cache.now shift.seat) c.in_ok-results.results.items shifts worker d c.in_ok-shifts.ensures lt
    (let e = some_of seats worker (omega (arith, lt, same)) in
    IfOk-weaker _ (IsShiftOf (rule_of c.args.answering) c.args.cache.now (record { worker = worker; seat = get_or seats worker e }) c.args.frames.now) (λ shift. IsSeatOf c.args.cache.now shift.seat) (λ shift is. is.on.object) (c.in_ok-results.ensures.each worker (Ok d) e (omega (arith, lt, same))))))) c.split.ensures.seats

pub returns-clause-numbers : goal.returns-clause-numbers
returns-clause-numbers g c =
    let shifts = c.in_ok-shifts.shifts.items in
    let seats = c.args.seats.items in
    let same : length shifts ≡ length seats = results_length c.in_ok-results.results.items shifts c.in_ok-shifts.ensures ∙ c.in_ok-results.ensures.all in
    IfOk-weaker c.split.result (λ done. done.0.items ≡ map (λ shift. shift.seat) shifts) (λ done. AreNumbered done.0.items) (λ done is. subst AreNumbered (sym is)
    (numbers_all (rule_of c.args.answering) (λ shift. shift.seat) (λ shift. shift.octets.items) seats shifts same c.requires.numbers
    (λ worker e d lt. shift_at (λ shift. number_by shift.seat ≡ number_by (get_or seats worker e)) c.in_ok-results.results.items shifts worker d c.in_ok-shifts.ensures lt
    (IfOk-weaker _ (IsShiftOf (rule_of c.args.answering) c.args.cache.now (record { worker = worker; seat = get_or seats worker e }) c.args.frames.now) (λ shift. number_by shift.seat ≡ number_by (get_or seats worker e)) (λ shift is. is.on.number) (c.in_ok-results.ensures.each worker (Ok d) e (omega (arith, lt, same))))))) c.split.ensures.seats

pub returns-clause-merge : goal.returns-clause-merge
returns-clause-merge g c =
    let shifts = c.in_ok-shifts.shifts.items in
    let seats = c.args.seats.items in
    let inputs = c.args.frames.now in
    let parts = map (λ shift. shift.octets.items) shifts in
    let same : length shifts ≡ length seats = results_length c.in_ok-results.results.items shifts c.in_ok-shifts.ensures ∙ c.in_ok-results.ensures.all in
    let many : length parts ≡ length shifts = length-map shifts (λ shift. shift.octets.items) in
    let below = subst (λ n. All (λ (input : Input). input.worker < n) inputs) (sym same ∙ sym many) c.requires.workers in
    IfOk-weaker c.split.result (λ done. done.1 ≡ map part_of shifts) (λ done. CanBeMerged (parts_of done.1) inputs) (λ done is. subst (λ l. CanBeMerged l inputs) (sym (ap parts_of is ∙ map-map (λ part. part.octets) part_of shifts))
    (can_merge parts inputs below
    (λ worker o lt.
    let inside : worker < length shifts = omega (arith, lt, many) in
    let d = some_of shifts worker inside in
    let e = some_of seats worker (omega (arith, inside, same)) in
    let one = shift_at (λ shift. AreOutputsOf worker inputs shift.octets.items) c.in_ok-results.results.items shifts worker d c.in_ok-shifts.ensures inside
    (IfOk-weaker _ (IsShiftOf (rule_of c.args.answering) c.args.cache.now (record { worker = worker; seat = get_or seats worker e }) inputs) (λ shift. AreOutputsOf worker inputs shift.octets.items) (λ shift is. outputs_at (rule_of c.args.answering) (λ s. s.seat) (λ s. s.octets.items) worker (get_or seats worker e) shift inputs is.work) (c.in_ok-results.ensures.each worker (Ok d) e (omega (arith, inside, same)))) in
    subst (AreOutputsOf worker inputs) (sym (get_or-map (λ shift. shift.octets.items) shifts worker d o inside)) one))) c.split.ensures.parts

pub returns-clause-cuts : goal.returns-clause-cuts
returns-clause-cuts g c =
    let shifts = c.in_ok-shifts.shifts.items in
    let seats = c.args.seats.items in
    let inputs = c.args.frames.now in
    let same : length shifts ≡ length seats = results_length c.in_ok-results.results.items shifts c.in_ok-shifts.ensures ∙ c.in_ok-results.ensures.all in
    IfOk-weaker c.split.result (λ done. done.1 ≡ map part_of shifts) (λ done. AreCut done.1 inputs) (λ done is. subst (λ l. AreCut l inputs) (sym is)
    (λ worker o lt.
    let inside : worker < length shifts = omega (arith, lt, length-map shifts part_of) in
    let d = some_of shifts worker inside in
    let e = some_of seats worker (omega (arith, inside, same)) in
    subst (λ (part : Part). AreCuts worker inputs part.octets part.cuts) (sym (get_or-map part_of shifts worker d o inside))
    (shift_at (λ shift. AreCuts worker inputs shift.octets.items shift.cuts.items) c.in_ok-results.results.items shifts worker d c.in_ok-shifts.ensures inside
    (IfOk-weaker _ (IsShiftOf (rule_of c.args.answering) c.args.cache.now (record { worker = worker; seat = get_or seats worker e }) inputs) (λ shift. AreCuts worker inputs shift.octets.items shift.cuts.items) (λ shift is. is.cuts) (c.in_ok-results.ensures.each worker (Ok d) e (omega (arith, inside, same))))))) c.split.ensures.parts

pub returns-clause-worked : goal.returns-clause-worked
returns-clause-worked g c =
    let shifts = c.in_ok-shifts.shifts.items in
    let seats = c.args.seats.items in
    let inputs = c.args.frames.now in
    let same : length shifts ≡ length seats = results_length c.in_ok-results.results.items shifts c.in_ok-shifts.ensures ∙ c.in_ok-results.ensures.all in
    if_ok_both c.split.result (λ done. done.0.items ≡ map (λ shift. shift.seat) shifts) (λ done. done.1 ≡ map part_of shifts)
    (λ done. (octets : _) → AreMerged (parts_of done.1) inputs octets → HaveWorked (rule_of c.args.answering) seats done.0.items inputs octets) c.split.ensures.seats c.split.ensures.parts
    (λ done is parts octets merged. subst (λ l. HaveWorked (rule_of c.args.answering) seats l inputs octets) (sym is)
    (worked_all (rule_of c.args.answering) (λ shift. shift.seat) (λ shift. shift.octets.items) seats shifts inputs octets same
    (λ worker e d lt. shift_at (λ shift. IsWork (rule_of c.args.answering) worker (get_or seats worker e) shift.seat inputs shift.octets.items) c.in_ok-results.results.items shifts worker d c.in_ok-shifts.ensures lt
    (IfOk-weaker _ (IsShiftOf (rule_of c.args.answering) c.args.cache.now (record { worker = worker; seat = get_or seats worker e }) inputs) (λ shift. IsWork (rule_of c.args.answering) worker (get_or seats worker e) shift.seat inputs shift.octets.items) (λ shift is. is.work) (c.in_ok-results.ensures.each worker (Ok d) e (omega (arith, lt, same)))))
    (subst (λ l. AreMerged l inputs octets) (ap parts_of parts ∙ map-map (λ part. part.octets) part_of shifts) merged)))
