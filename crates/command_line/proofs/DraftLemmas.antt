-- The options of `forward` set settings, one after the other.
use Rattle.std.proofs.Common.{◌≡◌, ◌≢◌, ℕ, ◌+◌, ◌<◌, ◌≤◌, List, [], ◌∷◌, ◌++◌, length, get_or, false, true, Option, None, Some, is_some, refl, sym, ◌∙◌, ap, subst, inl, inr, ⊎_elim, arith, length-append}
use Rattle.std.specs.List.{All, AllPairs, Contains}
use Rattle.std.specs.Option.{option_to_list}
use Rattle.std.specs.declared.net.socket_addr.SocketAddr.{SocketAddr}
use Rattle.std.proofs.lemmas.List.Elements.{All-cons, All-head, All-nil, All-tail, Contains-get_or, Contains-push_cases}
use Rattle.std.proofs.lemmas.List.Quantifiers.{all_pairs_push}
use Rattle.std.proofs.lemmas.Bool.{false≢true}
use Rattle.facts.proofs.Lists.{all_one, here}
use Rattle.dname.specs.Name.{Label}
use Rattle.command_line.specs.Words.{AreSet, AreSpelled, Choice, IsNameText, IsPathText, IsPlaceText, IsValue, Word, texts_of, workers_setting}
use Rattle.command_line.specs.Faults.{IsAmong}
use Rattle.command_line.specs.declared.flag.Flag.{Flag}
use Rattle.command_line.specs.declared.flag.Flag.TheVariants.{Listen, Upstream, Workers, Pass, Status}
use Rattle.command_line.proofs.SpelledLemmas.{spelled_append, spelled_length, text_of_value, texts_append, texts_kept}

-- one more text spells one more value
more : {A : Type 0} (Spells : Word → A → Type 0) (flag : Flag) (choices : List Choice) (text : Word) (values : List A) (value : A) → texts_of flag ((flag, text) ∷ []) ≡ text ∷ []
    → AreSpelled Spells (texts_of flag choices) values → Spells text value → AreSpelled Spells (texts_of flag (choices ++ (flag, text) ∷ [])) (values ++ value ∷ [])
more Spells flag choices text values value one spelled is =
    subst (λ ts. AreSpelled Spells ts (values ++ value ∷ [])) (sym (texts_append flag choices ((flag, text) ∷ []) ∙ ap (λ ts. texts_of flag choices ++ ts) one))
    (spelled_append Spells (texts_of flag choices) (text ∷ []) values (value ∷ []) spelled (is, tt))

kept : {A : Type 0} (Spells : Word → A → Type 0) (flag : Flag) (choices : List Choice) (choice : Choice) (values : List A) → texts_of flag (choice ∷ []) ≡ []
    → AreSpelled Spells (texts_of flag choices) values → AreSpelled Spells (texts_of flag (choices ++ choice ∷ [])) values
kept Spells flag choices choice values none spelled = subst (λ ts. AreSpelled Spells ts values) (sym (texts_kept flag choices choice none)) spelled

-- ---- each option, where it is right

apart_from : (places : List SocketAddr) (place : SocketAddr) → (Contains places place → ⊥) → AllPairs (λ one other. one ≢ other) places → AllPairs (λ one other. one ≢ other) (places ++ place ∷ [])
apart_from places place new apart =
    all_pairs_push (λ one other. one ≢ other) places place apart (λ k d within same. new (subst (Contains places) same (Contains-get_or places k d within)))

elsewhere_still : (places : List SocketAddr) (place : SocketAddr) (servers : List SocketAddr) → All (λ server. Contains places server → ⊥) servers → All (λ server. server ≢ place) servers
    → All (λ server. Contains (places ++ place ∷ []) server → ⊥) servers
elsewhere_still places place [] elsewhere other = All-nil (λ server. Contains (places ++ place ∷ []) server → ⊥)
elsewhere_still places place (server ∷ servers) elsewhere other =
    All-cons (λ s. Contains (places ++ place ∷ []) s → ⊥) server servers
    (λ among. ⊎_elim (All-head (λ s. Contains places s → ⊥) server servers elsewhere) (λ same. All-head (λ s. s ≢ place) server servers other (sym same)) (Contains-push_cases places place server among))
    (elsewhere_still places place servers (All-tail (λ s. Contains places s → ⊥) server servers elsewhere) (All-tail (λ s. s ≢ place) server servers other))

pub listens_more : (choices : List Choice) (text : Word) (place : SocketAddr) (places servers : List SocketAddr) (counts : List ℕ) (names : List (List Label)) (files : List Word)
    → IsPlaceText text place → length places < 8 → (Contains places place → ⊥) → All (λ server. server ≢ place) servers
    → AreSet choices places servers counts names files → AreSet (choices ++ (Listen, text) ∷ []) (places ++ place ∷ []) servers counts names files
listens_more choices text place places servers counts names files is room new other set = record {
  listens = more IsPlaceText Listen choices text places place refl set.listens is;
  few = omega (arith, length-append places (place ∷ []));
  apart = apart_from places place new set.apart;
  asks = kept IsPlaceText Upstream choices (Listen, text) servers refl set.asks;
  one_server = set.one_server;
  elsewhere = elsewhere_still places place servers set.elsewhere other;
  workers = kept (IsValue workers_setting) Workers choices (Listen, text) counts refl set.workers;
  one_count = set.one_count;
  passes = kept IsNameText Pass choices (Listen, text) names refl set.passes;
  few_passes = set.few_passes;
  tells = kept IsPathText Status choices (Listen, text) files refl set.tells;
  one_file = set.one_file;
}

pub asks_one : (choices : List Choice) (text : Word) (place : SocketAddr) (places : List SocketAddr) (counts : List ℕ) (names : List (List Label)) (files : List Word)
    → IsPlaceText text place → (Contains places place → ⊥)
    → AreSet choices places [] counts names files → AreSet (choices ++ (Upstream, text) ∷ []) places (place ∷ []) counts names files
asks_one choices text place places counts names files is other set = record {
  listens = kept IsPlaceText Listen choices (Upstream, text) places refl set.listens;
  few = set.few;
  apart = set.apart;
  asks = more IsPlaceText Upstream choices text [] place refl set.asks is;
  one_server = omega arith;
  elsewhere = all_one (λ server. Contains places server → ⊥) place other;
  workers = kept (IsValue workers_setting) Workers choices (Upstream, text) counts refl set.workers;
  one_count = set.one_count;
  passes = kept IsNameText Pass choices (Upstream, text) names refl set.passes;
  few_passes = set.few_passes;
  tells = kept IsPathText Status choices (Upstream, text) files refl set.tells;
  one_file = set.one_file;
}

pub employs : (choices : List Choice) (text : Word) (count : ℕ) (places servers : List SocketAddr) (names : List (List Label)) (files : List Word)
    → IsValue workers_setting text count
    → AreSet choices places servers [] names files → AreSet (choices ++ (Workers, text) ∷ []) places servers (count ∷ []) names files
employs choices text count places servers names files is set = record {
  listens = kept IsPlaceText Listen choices (Workers, text) places refl set.listens;
  few = set.few;
  apart = set.apart;
  asks = kept IsPlaceText Upstream choices (Workers, text) servers refl set.asks;
  one_server = set.one_server;
  elsewhere = set.elsewhere;
  workers = more (IsValue workers_setting) Workers choices text [] count refl set.workers is;
  one_count = omega arith;
  passes = kept IsNameText Pass choices (Workers, text) names refl set.passes;
  few_passes = set.few_passes;
  tells = kept IsPathText Status choices (Workers, text) files refl set.tells;
  one_file = set.one_file;
}

pub passes_more : (choices : List Choice) (text : Word) (name : List Label) (places servers : List SocketAddr) (counts : List ℕ) (names : List (List Label)) (files : List Word)
    → IsNameText text name → length names < 16
    → AreSet choices places servers counts names files → AreSet (choices ++ (Pass, text) ∷ []) places servers counts (names ++ name ∷ []) files
passes_more choices text name places servers counts names files is room set = record {
  listens = kept IsPlaceText Listen choices (Pass, text) places refl set.listens;
  few = set.few;
  apart = set.apart;
  asks = kept IsPlaceText Upstream choices (Pass, text) servers refl set.asks;
  one_server = set.one_server;
  elsewhere = set.elsewhere;
  workers = kept (IsValue workers_setting) Workers choices (Pass, text) counts refl set.workers;
  one_count = set.one_count;
  passes = more IsNameText Pass choices text names name refl set.passes is;
  few_passes = omega (arith, length-append names (name ∷ []));
  tells = kept IsPathText Status choices (Pass, text) files refl set.tells;
  one_file = set.one_file;
}

pub tells_one : (choices : List Choice) (text file : Word) (places servers : List SocketAddr) (counts : List ℕ) (names : List (List Label))
    → IsPathText text file
    → AreSet choices places servers counts names [] → AreSet (choices ++ (Status, text) ∷ []) places servers counts names (file ∷ [])
tells_one choices text file places servers counts names is set = record {
  listens = kept IsPlaceText Listen choices (Status, text) places refl set.listens;
  few = set.few;
  apart = set.apart;
  asks = kept IsPlaceText Upstream choices (Status, text) servers refl set.asks;
  one_server = set.one_server;
  elsewhere = set.elsewhere;
  workers = kept (IsValue workers_setting) Workers choices (Status, text) counts refl set.workers;
  one_count = set.one_count;
  passes = kept IsNameText Pass choices (Status, text) names refl set.passes;
  few_passes = set.few_passes;
  tells = more IsPathText Status choices text [] file refl set.tells is;
  one_file = omega arith;
}

-- no server is this one
pub none_is : (server : Option SocketAddr) (place : SocketAddr) → (server ≡ Some place → ⊥) → All (λ other. other ≢ place) (option_to_list server)
none_is None place other = All-nil (λ server. server ≢ place)
none_is (Some server) place other = all_one (λ s. s ≢ place) server (λ same. other (ap Some same))

-- ---- where it is wrong

-- a place that is set was written as a value of the option
pub placed : (choices : List Choice) (flag : Flag) (places : List SocketAddr) (place : SocketAddr) → AreSpelled IsPlaceText (texts_of flag choices) places → Contains places place → IsAmong choices flag place
placed choices flag places place spelled among =
    let found = text_of_value IsPlaceText (texts_of flag choices) places place spelled among in
    (found.0, found.1, found.2.written)

pub one_is : (server : Option SocketAddr) (place : SocketAddr) → server ≡ Some place → Contains (option_to_list server) place
one_is server place same = subst (λ s. Contains (option_to_list s) place) (sym same) (here place [])

-- nothing is set before
pub none_before : {A : Type 0} (o : Option A) → is_some o ≡ false → option_to_list o ≡ []
none_before None none = refl
none_before (Some x) none = absurd (false≢true (sym none))

-- something was given before
pub some_before : {A : Type 0} (Spells : Word → A → Type 0) (texts : List Word) (o : Option A) → AreSpelled Spells texts (option_to_list o) → is_some o ≡ true → 1 ≤ length texts
some_before Spells texts None spelled some = absurd (false≢true some)
some_before Spells texts (Some x) spelled some = omega (arith, spelled_length Spells texts (x ∷ []) spelled)
