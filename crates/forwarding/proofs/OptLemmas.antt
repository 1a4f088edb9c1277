-- The OPT record at the end of a reply, and that of a message.
use Rattle.std.proofs.Common.{◌≡◌, ◌≢◌, ℕ, ◌+◌, ◌<◌, ◌&&◌, Bool, true, false, nat_eq, if◌then◌else◌, List, [], ◌∷◌, length, drop, get_or, refl, sym, ◌∙◌, ap, arith}
use Rattle.std.proofs.lemmas.Bool.Decides.{nat_tests}
use Rattle.std.proofs.lemmas.List.{drop_more}
use Rattle.dname.specs.Name.{Label}
use Rattle.dname.specs.declared.types.TheConstants.{OPT_TYPE}
use Rattle.dnswire.specs.Message.{is_root}
use Rattle.dnswire.specs.declared.rr.Rr.{Rr}
use Rattle.forwarding.specs.Options.{opt_data}

-- ---- that of a message

root_is : (labels : List Label) → length labels ≡ 0 → is_root labels ≡ true
root_is [] none = refl
root_is (label ∷ more) none = absurd (omega (arith, none))

root_is_not : (labels : List Label) → length labels ≢ 0 → is_root labels ≡ false
root_is_not [] some = absurd (some refl)
root_is_not (label ∷ more) some = refl

data_here : (rrs : List Rr) (i : ℕ) (rr : Rr) (test : Bool) → i < length rrs → rr ≡ get_or rrs i rr → (nat_eq rr.rtype OPT_TYPE && is_root rr.owner) ≡ test → opt_data (drop i rrs) ≡ (if test then rr.octets else opt_data (drop (i + 1) rrs))
data_here rrs i rr test within is tested =
    ap opt_data (drop_more rrs i rr within) ∙ ap (λ first. opt_data (first ∷ drop (i + 1) rrs)) (sym is) ∙ ap (λ b. if b then rr.octets else opt_data (drop (i + 1) rrs)) tested

pub data_of_root : (rrs : List Rr) (i : ℕ) (rr : Rr) → i < length rrs → rr ≡ get_or rrs i rr → rr.rtype ≡ OPT_TYPE → length rr.owner ≡ 0 → opt_data (drop i rrs) ≡ rr.octets
data_of_root rrs i rr within is opt root = data_here rrs i rr true within is (grind (arith, nat_tests, opt, root_is rr.owner root))

pub other_type : (rrs : List Rr) (i : ℕ) (rr : Rr) → i < length rrs → rr ≡ get_or rrs i rr → rr.rtype ≢ OPT_TYPE → opt_data (drop i rrs) ≡ opt_data (drop (i + 1) rrs)
other_type rrs i rr within is other = data_here rrs i rr false within is (grind (arith, nat_tests, other))

pub other_owner : (rrs : List Rr) (i : ℕ) (rr : Rr) → i < length rrs → rr ≡ get_or rrs i rr → length rr.owner ≢ 0 → opt_data (drop i rrs) ≡ opt_data (drop (i + 1) rrs)
other_owner rrs i rr within is other = data_here rrs i rr false within is (grind (arith, nat_tests, root_is_not rr.owner other))
