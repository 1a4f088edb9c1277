-- Why words that begin with `forward` are no command.
use Rattle.std.specs.Prelude.{◌≡◌, ◌⊎◌, ℕ, ◌≤◌, ◌||◌, Bool, true, false, List, [], ◌∷◌, ◌++◌, length, IsTrue, codes, String}
use Rattle.std.specs.List.{Contains}
use Rattle.std.specs.Net.Grammar.{IsSocketText}
use Rattle.std.specs.Net.Socket.{socket_port}
use Rattle.std.specs.declared.alloc.Global.{Global}
use Rattle.std.specs.declared.net.socket_addr.SocketAddr.{SocketAddr}
use Rattle.dname.specs.Name.{Label}
use Rattle.command_line.specs.declared.cause.Cause.{Cause}
use Rattle.command_line.specs.declared.cause.Cause.TheVariants.{NoAddress, EveryAddress, MappedAddress, NoPort, ListenedTwice, UpstreamListened, TooManyListens, GivenTwice, NoWorkers, NoName, TooManyPasses, NoPath}
use Rattle.command_line.specs.declared.fault.Fault.{Fault}
use Rattle.command_line.specs.declared.fault.Fault.TheVariants.{Stray, Valueless, Wrong, Missing}
use Rattle.command_line.specs.declared.flag.Flag.{Flag}
use Rattle.command_line.specs.declared.flag.Flag.TheVariants.{Listen, Upstream, Workers, Pass, Status}
use Rattle.command_line.specs.Words.{Word, Choice, IsValue, IsEvery, IsMapped, IsNameText, AreOptions, AreSet, begins_with_hyphen, flag_name, texts, texts_of, workers_setting}

-- the option's value is an address with a port
abbrev pub takes_place : Flag → Bool
takes_place Listen = true
takes_place Upstream = true
takes_place Workers = false
takes_place Pass = false
takes_place Status = false

-- it stands once at most
abbrev pub is_single : Flag → Bool
is_single Listen = false
is_single Upstream = true
is_single Workers = true
is_single Pass = false
is_single Status = true

-- it has to be given
abbrev pub is_needed : Flag → Bool
is_needed Listen = true
is_needed Upstream = true
is_needed Workers = true
is_needed Pass = false
is_needed Status = false

-- the one listens, and the other asks
abbrev pub AreOpposite : Flag → Flag → Type 0
AreOpposite flag other = ((flag ≡ Listen) × (other ≡ Upstream)) ⊎ ((flag ≡ Upstream) × (other ≡ Listen))

-- the address is written, as a value of the option, among these
abbrev pub IsAmong : List Choice → Flag → SocketAddr → Type 0
IsAmong choices flag place = (text : Word) × Contains (texts_of flag choices) text × IsSocketText text place

-- what is wrong with an option behind those before it
abbrev pub IsWrong : List Choice → Choice → Cause → Type 0
IsWrong before (flag, text) NoAddress = IsTrue (takes_place flag) × ((place : SocketAddr) → IsSocketText text place → ⊥)
IsWrong before (flag, text) EveryAddress = IsTrue (takes_place flag) × ((place : SocketAddr) × IsSocketText text place × IsEvery place)
IsWrong before (flag, text) MappedAddress = IsTrue (takes_place flag) × ((place : SocketAddr) × IsSocketText text place × IsMapped place)
IsWrong before (flag, text) NoPort = IsTrue (takes_place flag) × ((place : SocketAddr) × IsSocketText text place × (socket_port place ≡ 0))
IsWrong before (flag, text) ListenedTwice = (flag ≡ Listen) × ((place : SocketAddr) × IsSocketText text place × IsAmong before Listen place)
IsWrong before (flag, text) UpstreamListened =
    (other : Flag) × AreOpposite flag other × ((place : SocketAddr) × IsSocketText text place × IsAmong before other place)
IsWrong before (flag, text) TooManyListens = (flag ≡ Listen) × (8 ≤ length (texts_of Listen before))
IsWrong before (flag, text) GivenTwice = IsTrue (is_single flag) × (1 ≤ length (texts_of flag before))
IsWrong before (flag, text) NoWorkers = (flag ≡ Workers) × ((count : ℕ) → IsValue workers_setting text count → ⊥)
IsWrong before (flag, text) NoName = (flag ≡ Pass) × ((name : List Label) → IsNameText text name → ⊥)
IsWrong before (flag, text) TooManyPasses = (flag ≡ Pass) × (16 ≤ length (texts_of Pass before))
IsWrong before (flag, text) NoPath = (flag ≡ Status) × (text ≡ [])

-- nothing is wrong with them
pub record AreRight (choices : List Choice) : Type 0 where
  pub places : List SocketAddr
  pub servers : List SocketAddr
  pub counts : List ℕ
  pub names : List (List Label)
  pub files : List Word
  pub set : AreSet choices places servers counts names files

-- the word is no option, neither alone nor with a value behind '=' (61)
pub record IsStray (word : Word) : Type 0 where
  pub alone : (flag : Flag) → word ≡ flag_name flag → ⊥
  pub joined : (flag : Flag) (text : Word) → word ≡ flag_name flag ++ 61 ∷ text → ⊥

-- no value stands at the front: nothing stands there, or a word that begins with a hyphen
abbrev pub HasNoValue : List Word → Type 0
HasNoValue [] = Unit {0}
HasNoValue (word ∷ more) = begins_with_hyphen word ≡ true

-- the first fault of the words behind `forward`: of a word that is no option or has no value; else of a value; else the lack of an
-- option
abbrev pub IsFaultIn : List Word → Fault → Type 0
IsFaultIn words (Stray word) =
    (before : List Choice) × (more : List Word) × AreOptions before (word.now ∷ more) words × IsStray word.now
IsFaultIn words (Valueless flag) =
    (before : List Choice) × (more : List Word) × AreOptions before (flag_name flag ∷ more) words × HasNoValue more
IsFaultIn words (Wrong flag text cause) =
    (before after : List Choice) × AreOptions (before ++ (flag, text.now) ∷ after) [] words × AreRight before
    × IsWrong before (flag, text.now) cause
IsFaultIn words (Missing flag) =
    (choices : List Choice) × AreOptions choices [] words × AreRight choices × IsTrue (is_needed flag) × (texts_of flag choices ≡ [])

-- the words begin with `forward`
abbrev pub IsForward : List (String Global) → Type 0
IsForward words = (options : List Word) × (texts words ≡ codes "forward" ∷ options)

-- they do, and this is their first fault
abbrev pub IsFaultOf : List (String Global) → Fault → Type 0
IsFaultOf words fault = (options : List Word) × (texts words ≡ codes "forward" ∷ options) × IsFaultIn options fault
