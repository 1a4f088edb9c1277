use Rattle.std.proofs.Common.{◌≡◌, ◌<◌, ◌≤◌, List, [], ◌++◌, length, take, get_or, subst, sym, ◌∙◌, ap, arith}
use Rattle.reply_core.specs.Reply.{wants_dnssec}
use Rattle.reply_core.specs.Sections.{HasWrittenWithin}
use Rattle.resolver.specs.WalkReply.{way_records, end_records}
use Rattle.resolver.specs.Lent.{next_by, way_by, end_by, dnames_by}
use Rattle.resolver.specs.declared.walk.Way.{Way}
use Rattle.resolver.proofs.WritingLemmas.{led_so_far, answered_none, answered_more, answered_all}
use Rattle.resolver.proofs.writing.put_answers.Goals as goal

pub loop-place-init : goal.loop-place-init
loop-place-init g c =
    let walk = c.args.walk.now in
    record {
      at = c.copy-owner.ensures;
      answered = λ limit question rcode ttl was. answered_none walk.name walk.links.items walk.last_name (end_by walk.last_name walk.end) limit question rcode ttl c.args.sections.now was;
    }

pub loop-place-preserved : goal.loop-place-preserved
loop-place-preserved g c =
    let walk = c.args.walk.now in
    let links = walk.links.items in
    let way = c.index-links-place.result in
    let inside : c.loop-place.place < length links = rw (← c.as_slice-links.ensures.value) (omega (arith, c.loop-place-test.true)) in
    let at : way ≡ get_or links c.loop-place.place way = rw (← c.as_slice-links.ensures.value) c.index-links-place.is in
    record {
      at =
          c.next_name-owner.ensures
          ∙ ap (λ name. next_by name way) c.loop-place.invariant.at
          ∙ sym (led_so_far links c.loop-place.place way inside at walk.name);
      answered = λ limit question rcode ttl was.
          answered_more walk.name links walk.last_name (end_by walk.last_name walk.end) limit question rcode ttl c.loop-place.place way c.loop-place.owner c.loop-place.sections c.put_way.new.sections inside at c.loop-place.invariant.at
          (c.loop-place.invariant.answered limit question rcode ttl was)
          (λ answers here. subst (λ earlier. HasWrittenWithin limit question rcode ttl (answers ++ way_records (wants_dnssec question) (dnames_by earlier) c.loop-place.owner (way_by way (next_by c.loop-place.owner way))) [] c.put_way.new.sections)
          (c.first_of.ensures ∙ ap (take c.loop-place.place) c.as_slice-links.ensures.value) (c.put_way.ensures limit question rcode ttl answers here));
    }

pub returns : goal.returns
returns g c = λ limit question rcode ttl was.
    let walk = c.args.walk.now in
    let links = walk.links.items in
    let all_done : length links ≤ c.loop-place.place = rw (← c.as_slice-links.ensures.value) (omega (arith, c.loop-place-test.false)) in
    answered_all walk.name links walk.last_name (end_by walk.last_name walk.end) limit question rcode ttl c.loop-place.place c.loop-place.sections c.put_end.new.sections all_done
    (c.loop-place.invariant.answered limit question rcode ttl was)
    (λ answers here. subst (λ (them : List Way). HasWrittenWithin limit question rcode ttl (answers ++ end_records (wants_dnssec question) (dnames_by them) walk.last_name (end_by walk.last_name walk.end)) [] c.put_end.new.sections)
    c.as_slice-links.ensures.value (c.put_end.ensures limit question rcode ttl answers here))
