use Rattle.std.proofs.Common.{◌≡◌, refl, sym, subst, ◌∙◌, IsTrue, ◌↔◌}
use Rattle.std.specs.List.{count_by}
use Rattle.std.specs.List.Sorted.{IsNonDecreasingBy}
use Rattle.std.proofs.lemmas.Bool.{false≢true}
use Rattle.run_audit.specs.Clauses.{AreNumbered, AreInOrder}
use Rattle.run_audit.specs.First.{IsAnswered}
use Rattle.run_audit.specs.declared.clause.Clause.TheVariants.{Order}
use Rattle.run_audit.specs.declared.finding.Finding.TheVariants.{Unfit}
use Rattle.run_audit.specs.Pairs.{AreMatched, AreInTurn, outputs_in, rank_of}
use Rattle.run_audit.specs.Replies.{is_reply}
use Rattle.run_audit.proofs.FindLemmas.{matched_moved, versions_broken, outcomes_broken, found_as, order_as, first_few}
use Rattle.run_audit.proofs.auditing.find_in.Goals as goal
use Rattle.run_audit.proofs.auditing.find_in.Goals.{then-ordered, else-ordered}

pub are_numbered-requires : goal.are_numbered-requires
are_numbered-requires c = subst (IsNonDecreasingBy rank_of) (sym c.as_slice-3.ensures.value) c.in_ok-rank.ensures.ranked

pub returns-then-not-are_numbered : goal.returns-then-not-are_numbered
returns-then-not-are_numbered c =
    versions_broken c.args.zone.now c.args.pairs.items c.rank.new.pairs.items c.requires.matched c.requires.places c.in_ok-rank.ensures.same
    (λ numbered. c.are_numbered.ensures.none c.if-not-are_numbered.true (subst (λ l. AreNumbered (outputs_in l)) (sym c.as_slice-3.ensures.value) numbered))

pub check_pairs-requires-clause-matched : goal.check_pairs-requires-clause-matched
check_pairs-requires-clause-matched c =
    subst AreMatched (sym c.as_slice-4.ensures.value) (matched_moved c.args.pairs.items c.rank.new.pairs.items c.in_ok-rank.ensures.same c.requires.matched)

pub check_pairs-requires-clause-ranked : goal.check_pairs-requires-clause-ranked
check_pairs-requires-clause-ranked c = subst (IsNonDecreasingBy rank_of) (sym c.as_slice-4.ensures.value) c.in_ok-rank.ensures.ranked

pub check_pairs-requires-clause-turns : goal.check_pairs-requires-clause-turns
check_pairs-requires-clause-turns c =
    subst AreInTurn (c.as_slice-3.ensures.value ∙ sym c.as_slice-4.ensures.value) (c.are_numbered.ensures.turns c.if-not-are_numbered.false)

pub returns-in-Wrong : goal.returns-in-Wrong
returns-in-Wrong c =
    let is = subst (λ l. IsAnswered c.args.zone.now l c.in_ok-check_pairs.field-0) c.as_slice-4.ensures.value c.in_ok-check_pairs.ensures in
    outcomes_broken c.args.zone.now c.args.pairs.items c.rank.new.pairs.items c.requires.matched c.requires.places c.in_ok-rank.ensures.same
    (subst AreInTurn c.as_slice-3.ensures.value (c.are_numbered.ensures.turns c.if-not-are_numbered.false))
    (rw c.in-Wrong.is at is)

pub finding_of-requires : goal.finding_of-requires
finding_of-requires c =
    let is = subst (λ l. IsAnswered c.args.zone.now l c.in_ok-check_pairs.field-0) c.as_slice-4.ensures.value c.in_ok-check_pairs.ensures in
    first_few c.args.zone.now c.args.pairs.items c.rank.new.pairs.items c.requires.matched c.requires.places c.in_ok-rank.ensures.same c.requires.few c.in-Right.first
    (rw c.in-Right.is at is)

pub returns : goal.returns
returns c =
    let is = subst (λ l. IsAnswered c.args.zone.now l c.in_ok-check_pairs.field-0) c.as_slice-4.ensures.value c.in_ok-check_pairs.ensures in
    let has = rw c.in-Right.is at is in
    let turns : AreInTurn c.rank.new.pairs.items = subst AreInTurn c.as_slice-3.ensures.value (c.are_numbered.ensures.turns c.if-not-are_numbered.false) in
    let order : IsTrue c.are_in_order-ordered.result ↔ AreInOrder (outputs_in c.args.pairs.items) =
    subst (λ l. IsTrue c.are_in_order-ordered.result ↔ AreInOrder (outputs_in l)) c.as_slice.ensures.value c.are_in_order-ordered.ensures in
    let number : c.count_replies-replies.result ≡ count_by is_reply (outputs_in c.args.pairs.items) =
    subst (λ l. c.count_replies-replies.result ≡ count_by is_reply (outputs_in l)) c.as_slice-2.ensures.value c.count_replies-replies.ensures in
    elim c.if-ordered.branch [
      | then-ordered w ↦
          rw w.result-is (found_as c.args.zone.now c.args.pairs.items c.rank.new.pairs.items c.requires.matched c.requires.places c.in_ok-rank.ensures.same turns c.in-Right.first has
          w.finding_of.result c.count_replies-replies.result w.finding_of.ensures (order.0 w.if-ordered.true) number)
      | else-ordered w ↦
          rw w.result-is (order_as c.args.zone.now c.args.pairs.items c.rank.new.pairs.items c.requires.matched c.requires.places c.in_ok-rank.ensures.same turns c.in-Right.first has
          (Unfit Order) refl (λ ordered. false≢true (sym w.if-ordered.false ∙ order.1 ordered)))
    ]
