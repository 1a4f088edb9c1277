-- Words behind `forward` have one meaning, or a fault.
use Rattle.std.proofs.Common.{◌≡◌, ℕ, zero, suc, ◌+◌, ◌<◌, List, [], ◌∷◌, ◌++◌, length, get_or, map, take, drop, Option, None, Some, refl, sym, ◌∙◌, ap, subst, arith}
use Rattle.std.specs.Prelude.{IsTrue}
use Rattle.std.specs.Option.{option_to_list}
use Rattle.std.specs.declared.net.socket_addr.SocketAddr.{SocketAddr}
use Rattle.std.specs.Str.Parse.{digits_value}
use Rattle.std.proofs.NetLemmas.Theorems.{IsSocketText_unique}
use Rattle.std.proofs.lemmas.Bool.{false≢true}
use Rattle.facts.proofs.Lists.{same_head}
use Rattle.dname.specs.Name.{Label}
use Rattle.command_line.specs.Words.{AreOptions, AreSet, AreSpelled, AsksForward, Choice, IsNameText, IsPathText, IsPlaceText, IsValue, Word, texts_of, workers_setting}
use Rattle.command_line.specs.Faults.{AreRight, IsFaultIn, IsWrong, is_needed}
use Rattle.command_line.specs.Options.{IsDraft, IsDrawn, IsToldFault, IsToldWrong, Lacks, choice_of}
use Rattle.command_line.specs.declared.cause.Cause.{Cause}
use Rattle.command_line.specs.declared.choosing.Chosen.{Chosen}
use Rattle.command_line.specs.declared.drafting.Draft.{Draft}
use Rattle.command_line.specs.declared.fault.Fault.{Fault}
use Rattle.command_line.specs.declared.fault.Fault.TheVariants.{Stray, Valueless, Wrong, Missing}
use Rattle.command_line.specs.declared.flag.Flag.{Flag}
use Rattle.command_line.specs.declared.flag.Flag.TheVariants.{Listen, Upstream, Workers, Pass, Status}
use Rattle.command_line.specs.declared.forward_settings.ForwardSettings.{ForwardSettings}
use Rattle.command_line.specs.declared.refusal.Refusal.{Refusal}
use Rattle.command_line.specs.declared.refusal.Refusal.TheVariants.{Faulty, OutOfMemory}
use Rattle.command_line.proofs.ChoiceLemmas.{options_same, stray_refutes, valueless_refutes}
use Rattle.command_line.proofs.SpelledLemmas.{spelled_length, spelled_same}
use Rattle.command_line.proofs.WrongLemmas.{wrong_refutes}

-- ---- what a draft sets

-- an option stands between those before it and those behind
pub cut_at : (chosen : List Chosen) (i : ℕ) (d : Chosen) → i < length chosen → map choice_of chosen ≡ map choice_of (take i chosen) ++ choice_of (get_or chosen i d) ∷ map choice_of (drop (i + 1) chosen)
cut_at [] i d within = absurd (omega (arith, within))
cut_at (first ∷ chosen) zero d within = refl
cut_at (first ∷ chosen) (suc i) d within =
    let further : suc (i + 1) ≡ suc i + 1 = omega arith in
    ap (λ l. choice_of first ∷ l) (cut_at chosen i d (omega (arith, within)))
    ∙ ap (λ n. (choice_of first ∷ map choice_of (take i chosen)) ++ choice_of (get_or chosen i d) ∷ map choice_of (drop n (first ∷ chosen))) further

pub right : (choices : List Choice) (draft : Draft) → IsDraft choices draft → AreRight choices
right choices draft set = record {
  places = draft.listens;
  servers = option_to_list draft.upstream;
  counts = option_to_list draft.workers;
  names = draft.passes;
  files = option_to_list draft.status;
  set = set;
}

pub asked : (choices : List Choice) (words : List Word) (draft : Draft) (settings : ForwardSettings) → AreOptions choices [] words → IsDraft choices draft → IsDrawn draft settings → AsksForward words settings
asked choices words draft settings given set drawn = record {
  choices = choices;
  given = given;
  some = drawn.some;
  set =
      subst (λ listens. AreSet choices listens (settings.upstream ∷ []) (settings.workers ∷ []) settings.passes (option_to_list settings.status)) drawn.listens
      (subst (λ upstream. AreSet choices draft.listens (option_to_list upstream) (settings.workers ∷ []) settings.passes (option_to_list settings.status)) drawn.upstream
      (subst (λ workers. AreSet choices draft.listens (option_to_list draft.upstream) (option_to_list workers) settings.passes (option_to_list settings.status)) drawn.workers
      (subst (λ passes. AreSet choices draft.listens (option_to_list draft.upstream) (option_to_list draft.workers) passes (option_to_list settings.status)) drawn.passes
      (subst (λ status. AreSet choices draft.listens (option_to_list draft.upstream) (option_to_list draft.workers) draft.passes (option_to_list status)) drawn.status set))));
}

-- no text stands for what lacks
no_texts_of : {A : Type 0} (Spells : Word → A → Type 0) (texts : List Word) (values : List A) → AreSpelled Spells texts values → values ≡ [] → texts ≡ []
no_texts_of Spells [] values spelled none = refl
no_texts_of Spells (text ∷ texts) values spelled none = absurd (omega (arith, spelled_length Spells (text ∷ texts) values spelled, ap length none))

pub missing : (choices : List Choice) (words : List Word) (draft : Draft) (flag : Flag) → AreOptions choices [] words → IsDraft choices draft → Lacks draft flag → IsFaultIn words (Missing flag)
missing choices words draft Listen given set lacks = (choices, given, right choices draft set, refl, no_texts_of IsPlaceText (texts_of Listen choices) draft.listens set.listens lacks)
missing choices words draft Upstream given set lacks =
    (choices, given, right choices draft set, refl, no_texts_of IsPlaceText (texts_of Upstream choices) (option_to_list draft.upstream) set.asks (ap option_to_list lacks))
missing choices words draft Workers given set lacks =
    (choices, given, right choices draft set, refl, no_texts_of (IsValue workers_setting) (texts_of Workers choices) (option_to_list draft.workers) set.workers (ap option_to_list lacks))
missing choices words draft Pass given set lacks = absurd lacks
missing choices words draft Status given set lacks = absurd lacks

pub wrong_told : (choices : List Choice) (words : List Word) (refusal : Refusal) → AreOptions choices [] words → IsToldWrong choices refusal → IsToldFault words refusal
wrong_told choices words OutOfMemory given told = tt
wrong_told choices words (Faulty (Stray word)) given told = absurd told
wrong_told choices words (Faulty (Valueless flag)) given told = absurd told
wrong_told choices words (Faulty (Missing flag)) given told = absurd told
wrong_told choices words (Faulty (Wrong flag text cause)) given (before, after, joined, fine, wrong) =
    (before, after, subst (λ all. AreOptions all [] words) joined given, fine, wrong)

-- ---- one meaning

same_value : (text : Word) (one other : ℕ) → IsValue workers_setting text one → IsValue workers_setting text other → one ≡ other
same_value text one other is same = is.spelled ∙ sym same.spelled

same_place : (text : Word) (one other : SocketAddr) → IsPlaceText text one → IsPlaceText text other → one ≡ other
same_place text one other is same = IsSocketText_unique text one other is.written same.written

same_name : (text : Word) (one other : List Label) → IsNameText text one → IsNameText text other → one ≡ other
same_name text one other is same = is.kept ∙ sym same.kept

same_path : (text one other : Word) → IsPathText text one → IsPathText text other → one ≡ other
same_path text one other is same = is.same ∙ sym same.same

same_option : {A : Type 0} (one other : Option A) → option_to_list one ≡ option_to_list other → one ≡ other
same_option None None e = refl
same_option None (Some y) e = absurd (omega (arith, ap length e))
same_option (Some x) None e = absurd (omega (arith, ap length e))
same_option (Some x) (Some y) e = ap Some (same_head x y [] [] e)

pub one_meaning : (words : List Word) (settings others : ForwardSettings) → AsksForward words settings → AsksForward words others → settings ≡ others
one_meaning words settings others asks same =
    let all = options_same same.choices asks.choices words same.given asks.given in
    let set = subst (λ cs. AreSet cs others.listens (others.upstream ∷ []) (others.workers ∷ []) others.passes (option_to_list others.status)) all same.set in
    let listens = spelled_same IsPlaceText same_place (texts_of Listen asks.choices) settings.listens others.listens asks.set.listens set.listens in
    let upstream = same_head settings.upstream others.upstream [] []
    (spelled_same IsPlaceText same_place (texts_of Upstream asks.choices) (settings.upstream ∷ []) (others.upstream ∷ []) asks.set.asks set.asks) in
    let workers = same_head settings.workers others.workers [] []
    (spelled_same (IsValue workers_setting) same_value (texts_of Workers asks.choices) (settings.workers ∷ []) (others.workers ∷ []) asks.set.workers set.workers) in
    let passes = spelled_same IsNameText same_name (texts_of Pass asks.choices) settings.passes others.passes asks.set.passes set.passes in
    let status = same_option settings.status others.status
    (spelled_same IsPathText same_path (texts_of Status asks.choices) (option_to_list settings.status) (option_to_list others.status) asks.set.tells set.tells) in
    λ i. record { listens = listens i; upstream = upstream i; workers = workers i; passes = passes i; status = status i }

-- ---- a fault excludes each

needs_text : (words : List Word) (settings : ForwardSettings) (flag : Flag) → (asks : AsksForward words settings) → IsTrue (is_needed flag) → texts_of flag asks.choices ≡ [] → ⊥
needs_text words settings Listen asks needed none =
    absurd (omega (arith, spelled_length IsPlaceText (texts_of Listen asks.choices) settings.listens asks.set.listens, asks.some, ap length none))
needs_text words settings Upstream asks needed none =
    absurd (omega (arith, spelled_length IsPlaceText (texts_of Upstream asks.choices) (settings.upstream ∷ []) asks.set.asks, ap length none))
needs_text words settings Workers asks needed none =
    absurd (omega (arith, spelled_length (IsValue workers_setting) (texts_of Workers asks.choices) (settings.workers ∷ []) asks.set.workers, ap length none))
needs_text words settings Pass asks needed none = false≢true needed
needs_text words settings Status asks needed none = false≢true needed

pub fault_refutes : (words : List Word) (fault : Fault) (settings : ForwardSettings) → IsFaultIn words fault → AsksForward words settings → ⊥
fault_refutes words (Stray word) settings (before, more, are, stray) asks = stray_refutes before asks.choices word.now more words are stray asks.given
fault_refutes words (Valueless flag) settings (before, more, are, none) asks = valueless_refutes before asks.choices flag more words are none asks.given
fault_refutes words (Wrong flag text cause) settings (before, after, are, fine, wrong) asks =
    let all = options_same asks.choices (before ++ (flag, text.now) ∷ after) words asks.given are in
    let set = subst (λ cs. AreSet cs settings.listens (settings.upstream ∷ []) (settings.workers ∷ []) settings.passes (option_to_list settings.status)) all asks.set in
    wrong_refutes before after text.now settings.listens (settings.upstream ∷ []) (settings.workers ∷ []) settings.passes (option_to_list settings.status) flag cause set wrong
fault_refutes words (Missing flag) settings (choices, are, fine, needed, none) asks =
    needs_text words settings flag asks needed (ap (texts_of flag) (options_same asks.choices choices words asks.given are) ∙ none)
