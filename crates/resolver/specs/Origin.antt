-- From what the reply of a walk is made: a held set, a denial, or what leads on to another name.
use Rattle.std.specs.Prelude.{◌≡◌, ℕ, Bool, true, false, ◌||◌, if◌then◌else◌, unwrap_or, List, [], ◌∷◌, Option}
use Rattle.std.specs.List.{list_any}
use Rattle.std.specs.Option.{option_map}
use Rattle.dnswire.specs.declared.question.Question.{Question}
use Rattle.denial_records.specs.declared.record.Record.{Record}
use Rattle.denial_records.specs.declared.verdict.Kind.{Kind}
use Rattle.denial_records.specs.declared.verdict.Kind.TheVariants as kinds
use Rattle.cache_meaning.specs.Held.{Held}
use Rattle.resolver.specs.Walk.{Way, ByAlias, ByDname, Link, End, Proved, Made, TooLong, Walk}
use Rattle.resolver.specs.WalkReply.{way_denials, end_denials, walk_in, octets_within}
use Rattle.resolver.specs.declared.origin.Origin.{Origin}
use Rattle.resolver.specs.declared.origin.Origin.TheVariants.{Set, NoData, NameError, Wildcard, Alias, Redirection}
use Rattle.resolver.specs.declared.rule.Rule.{Rule}

-- whether there is a denial among them
abbrev pub is_any : List Record → Bool
is_any [] = false
is_any (denial ∷ denials) = true

-- whether a denial has part in a walk: in an alias that a wildcard makes, or in what is proved of the last name
abbrev pub has_denials : List Link → End → Bool
has_denials links end =
    list_any (λ (link : Link). is_any (way_denials link.way)) links || is_any (end_denials end)

-- an answer by a wildcard has the denial of what would go before it (RFC 8198, section 5.3)
abbrev pub proof_origin : Kind → List Record → Origin
proof_origin kinds.Answer denials = if is_any denials then Wildcard else Set
proof_origin kinds.NoData denials = NoData
proof_origin kinds.NxDomain denials = NameError

abbrev pub end_origin : End → Origin
end_origin (Proved proof) = proof_origin proof.kind proof.denials
end_origin (Made set target) = Redirection false
end_origin (TooLong set) = Redirection false

abbrev pub way_origin : Way → Bool → Origin
way_origin (ByAlias proof) synthesized = Alias synthesized
way_origin (ByDname set target) synthesized = Redirection synthesized

-- what the first link goes by, or the end, where there is no link
abbrev pub origin_by : List Link → End → Origin
origin_by [] end = end_origin end
origin_by (link ∷ links) end = way_origin link.way (has_denials (link ∷ links) end)

abbrev pub origin_of : Walk → Origin
origin_of walk = origin_by walk.links walk.end

-- that of the reply by the rule, or none where the query is forwarded
abbrev pub origin_in : Rule → Held → Question → ℕ → Option Origin
origin_in rule held question now = option_map origin_of (walk_in rule held question now)

-- that of the walk and the reply that it gives within the limit; neither where there is no walk
pub record IsReplyOf (limit : ℕ) (question : Question) (now : ℕ) (found : Option Walk) (origin : Option Origin) (octets : List ℕ) : Type 0 where
  pub made : origin ≡ option_map origin_of found
  pub written : octets ≡ unwrap_or (option_map (octets_within limit question now) found) []

-- whether a denial has part in the reply
abbrev pub is_synthesized : Origin → Bool
is_synthesized Set = false
is_synthesized NoData = true
is_synthesized NameError = true
is_synthesized Wildcard = true
is_synthesized (Alias synthesized) = synthesized
is_synthesized (Redirection synthesized) = synthesized
