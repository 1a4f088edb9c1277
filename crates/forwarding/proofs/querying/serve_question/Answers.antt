use Rattle.std.proofs.Common.{[], ℕ, List, sym, subst}
use Rattle.forwarding.specs.Buffers.{octets_in}
use Rattle.cache_versions.specs.Seats.{seen_by}
use Rattle.counters.specs.declared.counter.Counter.{Counter}
use Rattle.forwarding.specs.Done.{IsDone, told_once}
use Rattle.forwarding.specs.declared.want.Want.TheVariants as wants
use Rattle.forwarding.proofs.LawfulLemmas.{called_more}
use Rattle.forwarding.proofs.DoneLemmas.{answer_does}
use Rattle.forwarding.proofs.querying.serve_question.Goals as goal

pub reply-requires : goal.reply-requires
reply-requires g c =
    let told = g.O.Outlet.told c.args.outlet.now in
    let seen = seen_by c.prove.new.seat in
    let octets = octets_in c.prove.new.out c.args.carrier in
    record {
      object = c.in-Some.ensures.on.object;
      fits = c.octets-octets.ensures.fits;
      called = called_more c.args.passed.now (seen_by c.args.seat.now) seen c.args.table.now c.args.counts.now c.args.event.now told c.in-Some.ensures.on.begins c.requires.called;
      does =
          subst (λ (o : List ℕ). IsDone c.args.passed.now c.args.table.now seen c.args.event.now [] wants.Nothing (told_once c.args.table.now c.args.client o c.counter_of-counter.result)) (sym c.octets-octets.ensures.value)
          (subst (λ (k : Counter). IsDone c.args.passed.now c.args.table.now seen c.args.event.now [] wants.Nothing (told_once c.args.table.now c.args.client octets k)) (sym c.counter_of-counter.ensures)
          (answer_does c.args.passed.now c.args.table.now seen c.args.event.now c.args.client c.args.carrier c.args.question.now octets c.in-Some.origin c.requires.query c.requires.read c.in-Some.ensures.reply));
    }

pub serve_waiting-requires : goal.serve_waiting-requires
serve_waiting-requires g c =
    let told = g.O.Outlet.told c.args.outlet.now in
    let seen = seen_by c.prove.new.seat in
    record {
      object = c.in-None.ensures.on.object;
      query = c.requires.query;
      read = c.requires.read;
      unproved = c.in-None.ensures.reply;
      called = called_more c.args.passed.now (seen_by c.args.seat.now) seen c.args.table.now c.args.counts.now c.args.event.now told c.in-None.ensures.on.begins c.requires.called;
    }
