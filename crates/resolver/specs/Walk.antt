-- What becomes of a question by way of other names, by what is held at a moment: its name's CNAME leads on to another, or a
-- DNAME above it does, and so on from there, up to what is proved of the last (RFC 1034, sections 3.6.2 and 4.3.2; RFC 6672,
-- section 3.2).
use Rattle.std.specs.Prelude.{ℕ, Bool, true, false, not, ◌&&◌, ◌==◌, min, if◌then◌else◌, zero, suc, List, [], ◌∷◌, ◌++◌, fold, Option, Some, None}
use Rattle.std.specs.Option.{option_or, option_map, option_and_then}
use Rattle.dname.specs.Name.{Label}
use Rattle.dname.specs.NameData.{one_name_in}
use Rattle.dname.specs.declared.types.TheConstants.{CNAME_TYPE, DS_TYPE, IN_CLASS}
use Rattle.denial_records.specs.Proof.{Proof}
use Rattle.denial_records.specs.TimeLeft.{time_left}
use Rattle.denial_records.specs.declared.set_rec.SetRec.{SetRec}
use Rattle.denial_records.specs.declared.verdict.Kind.{Kind}
use Rattle.denial_records.specs.declared.verdict.Kind.TheVariants.{Answer, NoData, NxDomain}
use Rattle.cache_meaning.specs.Held.{Held}
use Rattle.cache_meaning.specs.Prove.{proof_of, is_forwarded}
use Rattle.cache_meaning.specs.Ttl.{ttl_of}
use Rattle.resolver.specs.Target.{target_of}
use Rattle.resolver.specs.Dname.{Dname, dname_above}
use Rattle.resolver.specs.declared.rule.Rule.{Rule}
use Rattle.resolver.specs.declared.rule.Rule.TheVariants.{Aliases, Redirection, Both}

-- ---- rules

-- how many links a walk may have
abbrev pub links_of : Rule → ℕ
links_of Aliases = 8
links_of Redirection = 1
links_of Both = 8

-- whether a link may be by an alias
abbrev pub takes_aliases : Rule → Bool
takes_aliases Aliases = true
takes_aliases Redirection = false
takes_aliases Both = true

-- and by a redirection
abbrev pub takes_redirections : Rule → Bool
takes_redirections Aliases = false
takes_redirections Redirection = true
takes_redirections Both = true

-- ---- walks

-- what leads on from a name: a proof of its CNAME, or a DNAME set above it, which makes another name of it
pub data Way : Type 0 where
  ByAlias : Proof → Way
  ByDname : SetRec → List Label → Way

pub record Link : Type 0 where
  pub owner : List Label
  pub way : Way

-- what ends a walk: a proof of the question at the last name; the CNAME that is asked for itself, which a DNAME makes; or a
-- DNAME that makes a name too long
pub data End : Type 0 where
  Proved : Proof → End
  Made : SetRec → List Label → End
  TooLong : SetRec → End

-- the links from the question's name on, the name that the last of them leads to, and what ends the walk there
pub record Walk : Type 0 where
  pub links : List Link
  pub last_name : List Label
  pub end : End

-- a walk without links
abbrev pub ending : List Label → End → Walk
ending name end = record { links = []; last_name = name; end = end }

-- the walk with these links in front
abbrev pub behind : List Link → Walk → Walk
behind links walk = record { links = links ++ walk.links; last_name = walk.last_name; end = walk.end }

-- ---- a step from a name of which nothing is proved

-- it leads on to another name, or to the end
pub data Step : Type 0 where
  Onto : Way → List Label → Step
  Ends : End → Step

-- where a proof of a CNAME leads, which has to be an answer by one record
abbrev pub alias_target : Kind → Option SetRec → Option (List Label)
alias_target Answer None = None
alias_target Answer (Some set) = one_name_in set.items
alias_target NoData set = None
alias_target NxDomain set = None

abbrev pub alias_step : Proof → Option Step
alias_step proof = option_map (Onto (ByAlias proof)) (alias_target proof.kind proof.answer)

-- by the name's CNAME; a DS isn't asked for by way of an alias, since the side of its zone's parent has it
abbrev pub by_alias : Held → ℕ → ℕ → List Label → Option Step
by_alias held now qtype name =
    if qtype == DS_TYPE then None else option_and_then alias_step (proof_of held now name CNAME_TYPE)

-- to the name that a DNAME makes, where that isn't too long; of a CNAME nothing more is asked (RFC 6672, section 3.2)
abbrev pub dname_step : ℕ → SetRec → Option (List Label) → Step
dname_step qtype set None = Ends (TooLong set)
dname_step qtype set (Some target) =
    if qtype == CNAME_TYPE then Ends (Made set target) else Onto (ByDname set target) target

-- by the topmost DNAME above the name
abbrev pub by_dname : Held → ℕ → ℕ → List Label → Option Step
by_dname held now qtype name =
    option_map (λ (dname : Dname). dname_step qtype dname.set (target_of name dname.set.owner dname.suffix))
    (dname_above held now name qtype)

-- the name's own alias goes first; no zone has a CNAME below a DNAME
abbrev pub step_of : Rule → Held → ℕ → ℕ → List Label → Option Step
step_of rule held now qtype name = option_or
    (if takes_aliases rule then by_alias held now qtype name else None)
    (if takes_redirections rule then by_dname held now qtype name else None)

-- ---- the whole

-- what is proved of the name itself
abbrev pub proved_at : Held → ℕ → ℕ → List Label → Option Walk
proved_at held now qtype name = option_map (λ proof. ending name (Proved proof)) (proof_of held now name qtype)

-- a step and what comes behind it
abbrev pub taken : (List Label → Option Walk) → List Label → Step → Option Walk
taken rest name (Onto way target) =
    option_map (behind (record { owner = name; way = way } ∷ [])) (rest target)
taken rest name (Ends end) = Some (ending name end)

-- on from a name of which nothing is proved, with at most so many links
abbrev pub beyond : ℕ → Rule → Held → ℕ → ℕ → List Label → Option Walk
beyond zero rule held now qtype name = None
beyond (suc links) rule held now qtype name = option_and_then
    (taken (λ target. option_or (proved_at held now qtype target) (beyond links rule held now qtype target)) name)
    (step_of rule held now qtype name)

-- the other where there is none of the first
abbrev pub where_none : {A B : Type 0} → Option A → Option B → Option B
where_none None other = other
where_none (Some x) other = None

-- what is proved of the name ends the walk, and else it goes on by the rule
unfoldable pub walk_of : Rule → Held → ℕ → List Label → ℕ → Option Walk
walk_of rule held now name qtype =
    option_or (proved_at held now qtype name) (beyond (links_of rule) rule held now qtype name)

-- a redirection of the name, of which nothing is proved itself: to what is proved of the name that the DNAME makes of it
abbrev pub redirection_of : Held → ℕ → List Label → ℕ → Option Walk
redirection_of held now name qtype =
    where_none (proof_of held now name qtype) (beyond (links_of Redirection) Redirection held now qtype name)

-- a question of class IN, whose type isn't one that is always forwarded
abbrev pub asks_a_zone : ℕ → ℕ → Bool
asks_a_zone qtype qclass = (qclass == IN_CLASS) && not (is_forwarded qtype)

-- the walk of a query
abbrev pub walk_for : Rule → Held → ℕ → List Label → ℕ → ℕ → Option Walk
walk_for rule held now name qtype qclass =
    if asks_a_zone qtype qclass then walk_of rule held now name qtype else None

-- ---- how long it may be kept

-- what a set has left
abbrev pub set_ttl : ℕ → SetRec → ℕ
set_ttl now set = time_left set.life set.expiry now

abbrev pub way_ttl : ℕ → Way → ℕ
way_ttl now (ByAlias proof) = ttl_of now proof
way_ttl now (ByDname set target) = set_ttl now set

abbrev pub end_ttl : ℕ → End → ℕ
end_ttl now (Proved proof) = ttl_of now proof
end_ttl now (Made set target) = set_ttl now set
end_ttl now (TooLong set) = set_ttl now set

-- the least of the TTLs of its proofs and of its DNAME sets (RFC 8198, section 5.4; RFC 6672, section 3.1)
abbrev pub walk_ttl : ℕ → Walk → ℕ
walk_ttl now walk = fold (λ ttl (link : Link). min ttl (way_ttl now link.way)) (end_ttl now walk.end) walk.links
