-- The walk that a lent one is: what its references lend. The owner of a link is the question's name, or that to which the link
-- before leads.
use Rattle.std.specs.Prelude.{◌≡◌, ℕ, ⊤, if◌then◌else◌, unwrap_or, List, [], ◌∷◌, Option, None}
use Rattle.std.specs.List.{flat_map}
use Rattle.std.specs.Option.{option_or, option_map, option_and_then}
use Rattle.dname.specs.Name.{Label}
use Rattle.dname.specs.NameData.{one_name_in}
use Rattle.dname.specs.Tests.{is_under}
use Rattle.denial_records.specs.Proof.{Proof}
use Rattle.denial_records.specs.declared.set_rec.SetRec.{SetRec}
use Rattle.denial_records.specs.declared.record.Record.{Record}
use Rattle.cache_meaning.specs.Held.{Held}
use Rattle.cache_meaning.specs.NsecSteps.{answer_by}
use Rattle.cache_meaning.specs.Prove.{proof_of}
use Rattle.reply_core.specs.Shown.{shown_by}
use Rattle.resolver.specs.Target.{target_of}
use Rattle.resolver.specs.Walk.{Way, ByAlias, ByDname, Link, End, Proved, Made, TooLong, Walk, Step, Onto, Ends, alias_target, step_of, proved_at, beyond, set_ttl, way_ttl, end_ttl}
use Rattle.resolver.specs.declared.rule.Rule.{Rule}
use Rattle.resolver.specs.declared.walk.Way.{Way as LentWay}
use Rattle.resolver.specs.declared.walk.Way.TheVariants as ways
use Rattle.resolver.specs.declared.walk.End.{End as LentEnd}
use Rattle.resolver.specs.declared.walk.End.TheVariants as ends
use Rattle.resolver.specs.declared.walk.Walk.{Walk as LentWalk}
use Rattle.resolver.specs.declared.step.Step.{Step as LentStep}
use Rattle.resolver.specs.declared.step.Step.TheVariants as steps

-- ---- where a link leads

-- what a DNAME set makes of a name below its owner
abbrev pub made_by : List Label → SetRec → Option (List Label)
made_by name set =
    if is_under name set.owner then option_and_then (target_of name set.owner) (one_name_in set.items) else None

-- the name to which it leads from a name
abbrev pub next_by : List Label → LentWay → List Label
next_by name (ways.Alias verdict) = unwrap_or (alias_target (shown_by verdict).kind (shown_by verdict).answer) name
next_by name (ways.Dname set) = unwrap_or (made_by name set.now) name

-- and so on, by one after the other
abbrev pub led_by : List Label → List LentWay → List Label
led_by name [] = name
led_by name (way ∷ ways) = led_by (next_by name way) ways

-- ---- walks

abbrev pub way_by : LentWay → List Label → Way
way_by (ways.Alias verdict) next = ByAlias (shown_by verdict)
way_by (ways.Dname set) next = ByDname set.now next

abbrev pub links_by : List Label → List LentWay → List Link
links_by name [] = []
links_by name (way ∷ ways) =
    record { owner = name; way = way_by way (next_by name way) } ∷ links_by (next_by name way) ways

abbrev pub end_by : List Label → LentEnd → End
end_by name (ends.Proved verdict) = Proved (shown_by verdict)
end_by name (ends.Made set) = Made set.now (unwrap_or (made_by name set.now) name)
end_by name (ends.TooLong set) = TooLong set.now

abbrev pub walk_by : LentWalk → Walk
walk_by walk = record {
  links = links_by walk.name walk.links.items;
  last_name = walk.last_name;
  end = end_by walk.last_name walk.end;
}

-- the walk by a name's own CNAME set to a name of which there is a proof
abbrev pub one_alias : List Label → SetRec → List Label → Proof → Walk
one_alias name set target proof = record {
  links = record { owner = name; way = ByAlias (answer_by set []) } ∷ [];
  last_name = target;
  end = Proved proof;
}

-- ---- the TTLs that verdicts tell

abbrev pub told_by_way : ℕ → LentWay → ℕ
told_by_way now (ways.Alias verdict) = verdict.ttl
told_by_way now (ways.Dname set) = set_ttl now set.now

abbrev pub told_by_end : ℕ → LentEnd → ℕ
told_by_end now (ends.Proved verdict) = verdict.ttl
told_by_end now (ends.Made set) = set_ttl now set.now
told_by_end now (ends.TooLong set) = set_ttl now set.now

abbrev pub TellsWay : ℕ → LentWay → Type 0
TellsWay now way = (next : List Label) → told_by_way now way ≡ way_ttl now (way_by way next)

abbrev pub TellsEnd : ℕ → LentEnd → Type 0
TellsEnd now end = (name : List Label) → told_by_end now end ≡ end_ttl now (end_by name end)

-- ---- steps

abbrev pub step_by : List Label → LentStep → Step
step_by name (steps.Onto way target) = Onto (way_by way target) target
step_by name (steps.Ends end) = Ends (end_by name end)

abbrev pub TellsStep : ℕ → LentStep → Type 0
TellsStep now (steps.Onto way target) = TellsWay now way
TellsStep now (steps.Ends end) = TellsEnd now end

-- from the name to where its way leads
abbrev pub Leads : List Label → LentStep → Type 0
Leads name (steps.Onto way target) = target ≡ next_by name way
Leads name (steps.Ends end) = ⊤

-- what is proved of the name ends a walk, and else it makes a step
abbrev pub visit_of : Rule → Held → ℕ → ℕ → List Label → Option Step
visit_of rule held now qtype name = option_or
    (option_map (λ proof. Ends (Proved proof)) (proof_of held now name qtype))
    (step_of rule held now qtype name)

-- the walk from a name on, with at most so many links
abbrev pub within : ℕ → Rule → Held → ℕ → ℕ → List Label → Option Walk
within links rule held now qtype name =
    option_or (proved_at held now qtype name) (beyond links rule held now qtype name)

-- ---- what links go by

abbrev pub dnames_in : LentWay → List SetRec
dnames_in (ways.Alias verdict) = []
dnames_in (ways.Dname set) = set.now ∷ []

abbrev pub dnames_by : List LentWay → List SetRec
dnames_by links = flat_map dnames_in links

abbrev pub denials_in : LentWay → List Record
denials_in (ways.Alias verdict) = (shown_by verdict).denials
denials_in (ways.Dname set) = []

abbrev pub denials_by : List LentWay → List Record
denials_by links = flat_map denials_in links
