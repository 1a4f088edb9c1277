-- Chains that the tests call the same are equal, and what is of a chain.
use Rattle.std.proofs.Common.{◌≡◌, true, true≢false, Some, refl, sym, ap, subst}
use Rattle.std.specs.Bool.{Decides}
use Rattle.std.specs.Cmp.Lexicographic.{bytes_decides}
use Rattle.std.proofs.lemmas.Bool.{and_parts}
use Rattle.std.proofs.lemmas.Bool.Decides.{Decides-eqb, same_from_decides}
use Rattle.dname.proofs.SameLemmas.{name_equal, name_itself}
use Rattle.denial_records.specs.declared.record.Record.{Record}
use Rattle.denial_records.specs.declared.record.Record.TheVariants.{Set, Nsec, Nsec3}
use Rattle.cache_meaning.specs.Held.{ZoneChain, Chain, NsecChain, Nsec3Chain, HashParameters, same_parameters, same_chain, same_zone_chain, chain_of, is_of_chain}

pub parameters_equal : (x y : HashParameters) → same_parameters x y ≡ true → x ≡ y
parameters_equal x y same =
    let parts = and_parts _ _ same in
    λ i. record { salt = (bytes_decides x.salt y.salt).0 parts.0 i; iterations = (Decides-eqb x.iterations y.iterations).0 parts.1 i }

pub parameters_itself : (x : HashParameters) → same_parameters x x ≡ true
parameters_itself x = rw ((bytes_decides x.salt x.salt).1 refl, (Decides-eqb x.iterations x.iterations).1 refl)

pub chain_equal : (x y : Chain) → same_chain x y ≡ true → x ≡ y
chain_equal NsecChain NsecChain same = refl
chain_equal NsecChain (Nsec3Chain other) same = absurd (true≢false (sym same))
chain_equal (Nsec3Chain one) NsecChain same = absurd (true≢false (sym same))
chain_equal (Nsec3Chain one) (Nsec3Chain other) same = ap (λ p. Nsec3Chain p) (parameters_equal one other same)

pub chain_itself : (chain : Chain) → same_chain chain chain ≡ true
chain_itself NsecChain = refl
chain_itself (Nsec3Chain parameters) = parameters_itself parameters

pub zone_chain_equal : (x y : ZoneChain) → same_zone_chain x y ≡ true → x ≡ y
zone_chain_equal x y same =
    let parts = and_parts _ _ same in
    λ i. record { zone = name_equal x.zone y.zone parts.0 i; chain = chain_equal x.chain y.chain parts.1 i }

pub zone_chain_itself : (chain : ZoneChain) → same_zone_chain chain chain ≡ true
zone_chain_itself chain = rw (name_itself chain.zone, chain_itself chain.chain)

-- whichever stands first
pub other_way : (x y : ZoneChain) → same_zone_chain x y ≡ same_zone_chain y x
other_way x y =
    same_from_decides _ _ (decides x y)
    ((λ h. sym ((decides y x).0 h)), (λ same. (decides y x).1 (sym same)))
  where
    decides : (a b : ZoneChain) → Decides (same_zone_chain a b) (a ≡ b)
    decides a b = (zone_chain_equal a b, λ same. subst (λ d. same_zone_chain a d ≡ true) same (zone_chain_itself a))

-- ---- what is of a chain

pub of_chain : (chain : ZoneChain) (item : Record) → is_of_chain chain item ≡ true → chain_of item ≡ Some chain
of_chain chain (Set set) is = absurd (true≢false (sym is))
of_chain chain (Nsec nsec) is = ap (λ c. Some c) (sym (zone_chain_equal chain _ is))
of_chain chain (Nsec3 nsec3) is = ap (λ c. Some c) (sym (zone_chain_equal chain _ is))

pub is_of_it : (chain : ZoneChain) (item : Record) → chain_of item ≡ Some chain → is_of_chain chain item ≡ true
is_of_it chain item is = rw is (zone_chain_itself chain)
