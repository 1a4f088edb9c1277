-- An option that is wrong can't stand among options that set what they should.
use Rattle.std.proofs.Common.{◌≡◌, ◌≢◌, ℕ, ◌+◌, ◌<◌, ◌≤◌, true, false, List, [], ◌∷◌, ◌++◌, length, get_or, refl, sym, ◌∙◌, ap, subst, inl, inr, ⊎_elim, arith, length-append}
use Rattle.std.specs.Prelude.{IsTrue}
use Rattle.std.specs.List.{All, AllPairs, Contains}
use Rattle.std.specs.Net.Grammar.{IsSocketText}
use Rattle.std.specs.Net.Socket.{socket_port}
use Rattle.std.specs.declared.net.socket_addr.SocketAddr.{SocketAddr}
use Rattle.std.proofs.NetLemmas.Theorems.{IsSocketText_unique}
use Rattle.std.proofs.lemmas.Bool.{false≢true}
use Rattle.std.proofs.lemmas.List.{get_or_append_left}
use Rattle.std.proofs.lemmas.List.Elements.{All-contains, Contains-append_left, Contains-append_right}
use Rattle.facts.proofs.Lists.{here}
use Rattle.dname.specs.Name.{Label}
use Rattle.command_line.specs.Words.{AreSet, AreSpelled, Choice, IsEvery, IsMapped, IsNameText, IsPathText, IsPlaceText, IsValue, Word, texts_of, workers_setting}
use Rattle.command_line.specs.Faults.{AreOpposite, IsAmong, IsWrong, is_single, takes_place}
use Rattle.command_line.specs.declared.cause.Cause.{Cause}
use Rattle.command_line.specs.declared.cause.Cause.TheVariants.{NoAddress, EveryAddress, MappedAddress, NoPort, ListenedTwice, UpstreamListened, TooManyListens, GivenTwice, NoWorkers, NoName, TooManyPasses, NoPath}
use Rattle.command_line.specs.declared.flag.Flag.{Flag}
use Rattle.command_line.specs.declared.flag.Flag.TheVariants.{Listen, Upstream, Workers, Pass, Status}
use Rattle.command_line.proofs.SpelledLemmas.{spelled_length, spelled_split, texts_append, value_of_text}

-- ---- the value of an option that stands there

own_text : (flag : Flag) (text : Word) (after : List Choice) → texts_of flag ((flag, text) ∷ after) ≡ text ∷ texts_of flag after
own_text Listen text after = refl
own_text Upstream text after = refl
own_text Workers text after = refl
own_text Pass text after = refl
own_text Status text after = refl

texts_at : (flag : Flag) (before : List Choice) (text : Word) (after : List Choice) → texts_of flag (before ++ (flag, text) ∷ after) ≡ texts_of flag before ++ text ∷ texts_of flag after
texts_at flag before text after = texts_append flag before ((flag, text) ∷ after) ∙ ap (λ ts. texts_of flag before ++ ts) (own_text flag text after)

-- the value behind those that stand before it
record IsAt {A : Type 0} (Spells : Word → A → Type 0) (texts : List Word) (text : Word) (values : List A) : Type 0 where
  first : List A
  value : A
  last : List A
  joined : values ≡ first ++ value ∷ last
  spelled : AreSpelled Spells texts first
  is : Spells text value

value_at : {A : Type 0} (Spells : Word → A → Type 0) (flag : Flag) (before : List Choice) (text : Word) (after : List Choice) (values : List A)
    → AreSpelled Spells (texts_of flag (before ++ (flag, text) ∷ after)) values → IsAt Spells (texts_of flag before) text values
value_at {A} Spells flag before text after values spelled =
    let s = spelled_split Spells (texts_of flag before) (text ∷ texts_of flag after) values (subst (λ ts. AreSpelled Spells ts values) (texts_at flag before text after) spelled) in
    by s.first s.last s.joined s.spelled_first s.spelled_last
  where
    by : (first last : List A) → values ≡ first ++ last → AreSpelled Spells (texts_of flag before) first → AreSpelled Spells (text ∷ texts_of flag after) last
        → IsAt Spells (texts_of flag before) text values
    by first [] joined front back = absurd back
    by first (value ∷ last) joined front back = record { first = first; value = value; last = last; joined = joined; spelled = front; is = back.0 }

-- so many values have the options with it
counted : {A : Type 0} (Spells : Word → A → Type 0) (flag : Flag) (before : List Choice) (text : Word) (after : List Choice) (values : List A)
    → AreSpelled Spells (texts_of flag (before ++ (flag, text) ∷ after)) values → length (texts_of flag before) < length values
counted Spells flag before text after values spelled =
    omega (
      arith,
      spelled_length Spells (texts_of flag (before ++ (flag, text) ∷ after)) values spelled,
      ap length (texts_at flag before text after),
      length-append (texts_of flag before) (text ∷ texts_of flag after),
    )

-- ---- addresses

module _ (before after : List Choice) (text : Word) (places servers : List SocketAddr) (counts : List ℕ) (names : List (List Label)) (files : List Word) where
  abbrev Sets : Flag → Type 0
  Sets flag = AreSet (before ++ (flag, text) ∷ after) places servers counts names files

  -- the place that the option sets, if it sets one
  pub placed_at : (flag : Flag) → IsTrue (takes_place flag) → Sets flag → (place : SocketAddr) × IsPlaceText text place
  placed_at Listen takes set = let v = value_at IsPlaceText Listen before text after places set.listens in (v.value, v.is)
  placed_at Upstream takes set = let v = value_at IsPlaceText Upstream before text after servers set.asks in (v.value, v.is)
  placed_at Workers takes set = absurd (false≢true takes)
  placed_at Pass takes set = absurd (false≢true takes)
  placed_at Status takes set = absurd (false≢true takes)

  no_address : (flag : Flag) → Sets flag → IsWrong before (flag, text) NoAddress → ⊥
  no_address flag set (takes, none) = let p = placed_at flag takes set in none p.0 p.1.written

  every_address : (flag : Flag) → Sets flag → IsWrong before (flag, text) EveryAddress → ⊥
  every_address flag set (takes, (place, written, every)) =
      let p = placed_at flag takes set in
      p.1.single (subst IsEvery (IsSocketText_unique text place p.0 written p.1.written) every)

  mapped_address : (flag : Flag) → Sets flag → IsWrong before (flag, text) MappedAddress → ⊥
  mapped_address flag set (takes, (place, written, mapped)) =
      let p = placed_at flag takes set in
      p.1.unmapped (subst IsMapped (IsSocketText_unique text place p.0 written p.1.written) mapped)

  no_port : (flag : Flag) → Sets flag → IsWrong before (flag, text) NoPort → ⊥
  no_port flag set (takes, (place, written, none)) =
      let p = placed_at flag takes set in
      let same = ap socket_port (IsSocketText_unique text place p.0 written p.1.written) in
      absurd (omega (arith, p.1.port, none, same))

  -- a place that was set before
  set_before : (flag : Flag) (values : List SocketAddr) (place : SocketAddr) → AreSpelled IsPlaceText (texts_of flag before) values → IsAmong before flag place → Contains values place
  set_before flag values place spelled (other, among, written) =
      let found = value_of_text IsPlaceText (texts_of flag before) values other spelled among in
      subst (Contains values) (IsSocketText_unique other found.0 place found.2.written written) found.1

  again : (first last : List SocketAddr) (place : SocketAddr) → Contains first place → AllPairs (λ one other. one ≢ other) (first ++ place ∷ last) → ⊥
  again first last place (k, within, is) apart =
      apart k (length first) place within (omega (arith, length-append first (place ∷ last)))
      (get_or_append_left first (place ∷ last) place k within ∙ is ∙ sym (at_end first last place))
    where
      at_end : (first last : List SocketAddr) (place : SocketAddr) → get_or (first ++ place ∷ last) (length first) place ≡ place
      at_end [] last place = refl
      at_end (x ∷ first) last place = at_end first last place

  listened_twice : (flag : Flag) → Sets flag → IsWrong before (flag, text) ListenedTwice → ⊥
  listened_twice flag set (is, (place, written, among)) =
      let own = subst Sets is set in
      let v = value_at IsPlaceText Listen before text after places own.listens in
      let same = IsSocketText_unique text place v.value written v.is.written in
      again v.first v.last v.value (subst (Contains v.first) same (set_before Listen v.first place v.spelled among))
      (subst (AllPairs (λ one other. one ≢ other)) v.joined own.apart)

  -- a place that an option before sets is among all
  set_among : (flag other : Flag) (values : List SocketAddr) (place : SocketAddr) → AreSpelled IsPlaceText (texts_of other (before ++ (flag, text) ∷ after)) values → IsAmong before other place → Contains values place
  set_among flag other values place spelled (word, among, written) =
      let more = Contains-append_left (texts_of other before) (texts_of other ((flag, text) ∷ after)) word among in
      let all = subst (λ ts. Contains ts word) (sym (texts_append other before ((flag, text) ∷ after))) more in
      let found = value_of_text IsPlaceText (texts_of other (before ++ (flag, text) ∷ after)) values word spelled all in
      subst (Contains values) (IsSocketText_unique word found.0 place found.2.written written) found.1

  -- and so is its own
  own_among : (flag : Flag) (values : List SocketAddr) (place : SocketAddr) → AreSpelled IsPlaceText (texts_of flag (before ++ (flag, text) ∷ after)) values → IsSocketText text place → Contains values place
  own_among flag values place spelled written =
      let v = value_at IsPlaceText flag before text after values spelled in
      subst (Contains values) (IsSocketText_unique text v.value place v.is.written written)
      (subst (λ vs. Contains vs v.value) (sym v.joined) (Contains-append_right v.first (v.value ∷ v.last) v.value (here v.value v.last)))

  upstream_listened : (flag : Flag) → Sets flag → IsWrong before (flag, text) UpstreamListened → ⊥
  upstream_listened flag set (other, inl (is, was), (place, written, among)) =
      let own = subst Sets is set in
      let asked = set_among Listen Upstream servers place own.asks (subst (λ f. IsAmong before f place) was among) in
      All-contains (λ server. Contains places server → ⊥) servers place own.elsewhere asked (own_among Listen places place own.listens written)
  upstream_listened flag set (other, inr (is, was), (place, written, among)) =
      let own = subst Sets is set in
      let listened = set_among Upstream Listen places place own.listens (subst (λ f. IsAmong before f place) was among) in
      All-contains (λ server. Contains places server → ⊥) servers place own.elsewhere (own_among Upstream servers place own.asks written) listened

  -- ---- counts

  too_many_listens : (flag : Flag) → Sets flag → IsWrong before (flag, text) TooManyListens → ⊥
  too_many_listens flag set (is, many) =
      let own = subst Sets is set in
      absurd (omega (arith, counted IsPlaceText Listen before text after places own.listens, own.few, many))

  too_many_passes : (flag : Flag) → Sets flag → IsWrong before (flag, text) TooManyPasses → ⊥
  too_many_passes flag set (is, many) =
      let own = subst Sets is set in
      absurd (omega (arith, counted IsNameText Pass before text after names own.passes, own.few_passes, many))

  given_twice : (flag : Flag) → Sets flag → IsWrong before (flag, text) GivenTwice → ⊥
  given_twice Listen set (single, some) = false≢true single
  given_twice Upstream set (single, some) = absurd (omega (arith, counted IsPlaceText Upstream before text after servers set.asks, set.one_server, some))
  given_twice Workers set (single, some) = absurd (omega (arith, counted (IsValue workers_setting) Workers before text after counts set.workers, set.one_count, some))
  given_twice Pass set (single, some) = false≢true single
  given_twice Status set (single, some) = absurd (omega (arith, counted IsPathText Status before text after files set.tells, set.one_file, some))

  -- ---- other values

  no_workers : (flag : Flag) → Sets flag → IsWrong before (flag, text) NoWorkers → ⊥
  no_workers flag set (is, none) =
      let own = subst Sets is set in
      let v = value_at (IsValue workers_setting) Workers before text after counts own.workers in
      none v.value v.is

  no_name : (flag : Flag) → Sets flag → IsWrong before (flag, text) NoName → ⊥
  no_name flag set (is, none) =
      let own = subst Sets is set in
      let v = value_at IsNameText Pass before text after names own.passes in
      none v.value v.is

  no_path : (flag : Flag) → Sets flag → IsWrong before (flag, text) NoPath → ⊥
  no_path flag set (is, none) =
      let own = subst Sets is set in
      let v = value_at IsPathText Status before text after files own.tells in
      absurd (omega (arith, v.is.some, ap length none))

  pub wrong_refutes : (flag : Flag) (cause : Cause) → Sets flag → IsWrong before (flag, text) cause → ⊥
  wrong_refutes flag NoAddress set wrong = no_address flag set wrong
  wrong_refutes flag EveryAddress set wrong = every_address flag set wrong
  wrong_refutes flag MappedAddress set wrong = mapped_address flag set wrong
  wrong_refutes flag NoPort set wrong = no_port flag set wrong
  wrong_refutes flag ListenedTwice set wrong = listened_twice flag set wrong
  wrong_refutes flag UpstreamListened set wrong = upstream_listened flag set wrong
  wrong_refutes flag TooManyListens set wrong = too_many_listens flag set wrong
  wrong_refutes flag GivenTwice set wrong = given_twice flag set wrong
  wrong_refutes flag NoWorkers set wrong = no_workers flag set wrong
  wrong_refutes flag NoName set wrong = no_name flag set wrong
  wrong_refutes flag TooManyPasses set wrong = too_many_passes flag set wrong
  wrong_refutes flag NoPath set wrong = no_path flag set wrong
