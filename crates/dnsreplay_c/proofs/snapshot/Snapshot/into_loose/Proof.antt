-- `into_loose` gives the box of an open handle.
use Rattle.std.proofs.Common.{◌≡◌, Option, List, [], ◌∷◌, ◌++◌, refl, sym, ap, ◌∙◌, subst, lit<}
use Rattle.std.specs.Prelude.{cond}
use Rattle.core.specs.declared.option.Option.TheVariants.{None, Some}
use mathlib.Core.Bool.{Bool, true, false}
use mir.Syntax.{ty_ptr}
use mir.Val.{Val, vptr, vbool, vcons, vnil, has_ty}
use mir.Raw.{raw as bare}
use base.Logic.{SProp, ent, emp, never, id⊢, fst∗}
use types.Logic.{sem}
use prog.Wp.{WpFn}
use types.Kit.{‵, raw, ◌⊛◌, at_ret, ◌$◌, ◌∵◌, !, qed, by, move, keep, split, fsplit, fjoin, suffices, use0, use1}
use types.Run.{stop, fld, lit, of_opd, no_more, and_then, first, branches, exec, returns, enter}
use types.ByLocal.{alloc_all, pass_all, free_all, look_at, get, get_in, sets, sets_last, env}
use types.Part.{agg, sub, whole}
use types.Match.{live}
use contract.Monad.{fact, fact_i}
use contract.Running.{tables}
use denote.Exit.{yes}
use denote.RattleType.{RattleType, owns}
use denote.Signature.{types_at, type_at, plain}
use denote.RawPtr.{Ptr, block_ptr, null_ptr, ptr_val, in_a_block}
use denote.Steps.{nothing}
use denote.Param.{layout}
use denote.Triple.Walked.{Stays, stay_dropped, walk_of, Goes-dropped}
use denote.Triple.Entry.{alive}
use Rattle.core.proofs.alloc.Shapes.{after}
use Rattle.core.proofs.cell.Inside.{Good}
use Rattle.core.proofs.atomic.Steps.{Ptr-Good}
use Rattle.core.proofs.option.Made.{Some-of, none_of}
use Rattle.std_alloc.proofs.ResultValues.{and_tt}
use Rattle.std.specs.contracts.alloc.Global as heap
use Rattle.std.proofs.alloc.Global.TheLaws as heap_laws
use Rattle.std.specs.contracts.impls.GlobalAllocator.TheImpl.{ghosts}
use Rattle.std.proofs.raw_atomic.Walks.{proved_at, leaves}
use Rattle.cache_meaning.specs.Held.{Held}
use Rattle.dnsreplay_c.specs.contracts.kept.Kept as kept
use Rattle.std_alloc.specs.Box.Ownership.{box_owns}
use Rattle.dnsreplay_c.specs.State.{state_at}
use Rattle.dnsreplay_c.proofs.Values.{both, both_tt, three, Loose, loose_good, loose_in, Snap, snapshot_out, either_open}
use Rattle.dnsreplay_c.specs.contracts.snapshot.Snapshot.into_loose.{ended, clauses}
use Rattle.dnsreplay_c.specs.contracts.snapshot.Snapshot.into_loose.Key.{name as #self}
use Rattle.dnsreplay_c.proofs.snapshot.Snapshot.into_loose.Statement.{statement}
use Rattle.dnsreplay_c.proofs.snapshot.Snapshot.into_loose.Code as code

pub into_loose_spec : {M : Type 1} → statement M
into_loose_spec 𝓤 𝓛 𝓜 𝓡 wired =
    let H = 𝓛.H in let 𝓣 = tables 𝓤 H 𝓜 𝓡 𝓡.env in let c = clauses 𝓛 𝓜.mem 𝓡.returns in let fn = code.function in
    let B : RattleType = kept.the_row in let Z : RattleType = heap.the_row in let LZ = heap_laws.the_row_laws in let Lr : RattleType = Loose B Z LZ ghosts in
    let hs : Stays ended.signature.params ended.kept = (stay_dropped (plain (λ _. Snap)) yes, tt) in
    proved_at 𝓛 ended hs c 𝓜 𝓡 (Goes-dropped 𝓛 0 (plain (λ _. Snap)) yes (λ κs x f. refl), tt) #self fn (code.unfolded 𝓤 H 𝓜 𝓡 wired) (λ z are.
    let κs = z.0.0 in let qs = z.0.1 in let Post : Val → SProp 𝓤 = (walk_of 𝓛 ended hs c).post z in let Run : List Val → SProp 𝓤 = λ ws. WpFn 𝓤 H 𝓣.C 𝓣.Λ fn ws Post in
    let s = z.0.3.0 in let a = s.alloc in let x = s.held in let Out : RattleType = type_at ended.signature.result κs in
    let none : Option Held = None in let some : Option Held = Some x in
    qed 𝓛 ((raw (alive 𝓛 ended.signature κs qs) ⊛ ‵ (owns (types_at ended.signature.params κs) z.0.3 z.0.4)) ∷ raw ((c κs z.0.3).requires z.1) ∷ []) ∵
    split ! $ move ! (1 ∷ []) $ fsplit ! $ snapshot_out ! s z.0.4.0 (λ h ws fits. either_open ! s.is_open a s.at x
    (λ is.
    -- [the allocator; nothing; the tokens; what is required]
    let w : Val = three (ptr_val s.at) (vbool false) h in let at = Ptr-Good s.at in let told : none ≡ state_at s.is_open s.held = sym (ap (λ (b : Bool). cond b some none) is) in
    let typed : Good (layout Snap) w = (both_tt (has_ty ty_ptr (ptr_val s.at)) (has_ty (layout Z) h) at.0 fits.0, (at.1, (tt, (fits.1, tt)))) in
    let word : z.0.4.0 ≡ w ∷ [] = ws ∙ ap (λ (b : Bool). three (ptr_val s.at) (vbool b) h ∷ []) is in
    suffices ! (Run (w ∷ [])) (subst (λ (us : List Val). ent 𝓤 (Run (w ∷ [])) (Run us)) (sym (λ i. word i ++ [])) (id⊢ 𝓤 (Run (w ∷ [])))) $
    enter ! 𝓣.C 𝓣.Λ fn (w ∷ []) Post $ alloc_all ! (λ l. pass_all ! refl (typed, tt) $ let Ev = env fn.locals l in
    sets ! (of_opd ! (get_in ! (fld ! refl (stop !)) (sub ! 0 refl (whole !)))) refl at $
    sets ! (of_opd ! (get_in ! (fld ! refl (stop !)) (sub ! 1 refl (whole !)))) refl (tt, tt) $
    sets ! (of_opd ! (get_in ! (fld ! refl (stop !)) (sub ! 2 refl (whole !)))) refl fits $
    sets ! (of_opd ! (get ! refl)) refl (tt, tt) $ first ! $ branches ! (get ! refl) (λ wrong. absurd wrong) (λ _.
    sets_last ! (agg ! (and_then ! (lit ! tt) (no_more !))) refl (tt, (record { fits = lit< tt }, tt)) $
    exec ! 𝓣.C 𝓣.Λ Ev (after 5 fn.body) (at_ret Ev Post) $ sets ! (of_opd ! (get ! refl)) refl (tt, (record { fits = lit< tt }, tt)) $
    use0 𝓛 (‵ (Out.own_val None (live 0 vnil ∷ []))) (none_of 𝓛 Lr) $
    use0 𝓛 (raw (fact 𝓤 (none ≡ state_at s.is_open s.held))) (fact_i 𝓤 (none ≡ state_at s.is_open s.held) (emp 𝓤) told) $ nothing ! $ nothing ! $ fjoin ! $
    returns ! (look_at ! 0 refl) $ free_all ! refl $ keep ! (5 ∷ 0 ∷ 2 ∷ 1 ∷ []) $ by ! (leaves 𝓛 ended hs c z (live 0 vnil) None (tt, tt) (tt, tt)))))
    (λ is. in_a_block ! s.at (λ p. box_owns (ghosts.dealloc_token a) B p x) (fst∗ 𝓤 (never 𝓤) (sem 𝓛 (ghosts.dealloc_token a (bare (layout B)) null_ptr))) (λ b o e.
    -- [the box; the allocator; nothing; the tokens; what is required]
    let w : Val = three (vptr b o) (vbool true) h in let told : some ≡ state_at s.is_open s.held = sym (ap (λ (b : Bool). cond b some none) is) in
    let typed : Good (layout Snap) w = (and_tt (has_ty (layout Z) h) fits.0, (tt, (tt, (fits.1, tt)))) in
    let word : z.0.4.0 ≡ w ∷ [] = ws ∙ ap (λ (b : Bool). three (ptr_val s.at) (vbool b) h ∷ []) is ∙ ap (λ (p : Ptr). three (ptr_val p) (vbool true) h ∷ []) e in
    let made : Val = both (vptr b o) h in let loosed = loose_good B Z LZ ghosts b o h fits in let v₁ : Val = live 1 (vcons made vnil) in
    let d : Lr.Denot = record { at = block_ptr b o; alloc = a; value = x } in let good : Good (layout Out) v₁ = (and_tt _ loosed.0, (record { fits = lit< tt }, (loosed.1, tt))) in
    suffices ! (Run (w ∷ [])) (subst (λ (us : List Val). ent 𝓤 (Run (w ∷ [])) (Run us)) (sym (λ i. word i ++ [])) (id⊢ 𝓤 (Run (w ∷ [])))) $
    enter ! 𝓣.C 𝓣.Λ fn (w ∷ []) Post $ alloc_all ! (λ l. pass_all ! refl (typed, tt) $ let Ev = env fn.locals l in
    sets ! (of_opd ! (get_in ! (fld ! refl (stop !)) (sub ! 0 refl (whole !)))) refl (tt, tt) $
    sets ! (of_opd ! (get_in ! (fld ! refl (stop !)) (sub ! 1 refl (whole !)))) refl (tt, tt) $
    sets ! (of_opd ! (get_in ! (fld ! refl (stop !)) (sub ! 2 refl (whole !)))) refl fits $
    sets ! (of_opd ! (get ! refl)) refl (tt, tt) $ first ! $ branches ! (get ! refl) (λ _.
    sets ! (agg ! (and_then ! (get ! refl) (and_then ! (get ! refl) (no_more !)))) refl loosed $ sets_last ! (agg ! (and_then ! (lit ! tt) (and_then ! (get ! refl) (no_more !)))) refl good $
    exec ! 𝓣.C 𝓣.Λ Ev (after 5 fn.body) (at_ret Ev Post) $ sets ! (of_opd ! (get ! refl)) refl good $ loose_in B Z LZ ghosts ! b o h a x $
    use1 𝓛 (‵ (Out.own_val (Some d) (v₁ ∷ []))) (Some-of 𝓛 Lr d made) $
    use0 𝓛 (raw (fact 𝓤 (some ≡ state_at s.is_open s.held))) (fact_i 𝓤 (some ≡ state_at s.is_open s.held) (emp 𝓤) told) $ nothing ! $ nothing ! $ fjoin ! $
    returns ! (look_at ! 0 refl) $ free_all ! refl $ keep ! (4 ∷ 0 ∷ 2 ∷ 1 ∷ []) $ by ! (leaves 𝓛 ended hs c z v₁ (Some d) (tt, tt) (tt, tt))) (λ wrong. absurd wrong))))))
