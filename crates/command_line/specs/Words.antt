-- The words of the command line, those after the program's name: which of them are a command, with which values.
use Rattle.std.specs.Prelude.{◌≡◌, ◌≢◌, ◌⊎◌, ℕ, ◌+◌, ◌-◌, ◌==◌, ◌||◌, ◌<◌, ◌≤◌, Bool, false, List, [], ◌∷◌, ◌++◌, length, map, filter, Option, Some, None, IsTrue, if◌then◌else◌, codes, string_bytes, String}
use Rattle.std.specs.List.{All, AllPairs, Contains, slice_split}
use Rattle.std.specs.Option.{option_to_list}
use Rattle.std.specs.Char.{is_ascii_alphanumeric}
use Rattle.std.specs.Str.{bytes_eq}
use Rattle.std.specs.Str.Parse.{IsNumeral, digits_value}
use Rattle.std.specs.Net.Addr.{IsIpv4Mapped, IsUnspecifiedV4, IsUnspecifiedV6, MatchIp, ipv6_segments}
use Rattle.std.specs.Net.Grammar.{IsSocketText}
use Rattle.std.specs.Net.Socket.{socket_ip, socket_port}
use Rattle.std.specs.declared.alloc.Global.{Global}
use Rattle.std.specs.declared.net.socket_addr.SocketAddr.{SocketAddr}
use Rattle.dname.specs.Name.{Label, HasLabelLength, lowered, wire_of}
use Rattle.command_line.specs.declared.command.Command.{Command}
use Rattle.command_line.specs.declared.command.Command.TheVariants.{Replay, Selfrun, Serve, Chase, Redirect, Follow, Tcp, Audit, Forward, Help, Version}
use Rattle.command_line.specs.declared.flag.Flag.{Flag}
use Rattle.command_line.specs.declared.flag.Flag.TheVariants.{Listen, Upstream, Workers, Pass, Status}
use Rattle.command_line.specs.declared.forward_settings.ForwardSettings.{ForwardSettings}
use Rattle.command_line.specs.declared.topic.Topic.{Topic}
use Rattle.command_line.specs.declared.topic.Topic.TheVariants as topic

-- a word, octet by octet
abbrev pub Word : Type 0
Word = List ℕ

-- an option of a command, with the least and the greatest of its values
pub record Setting : Type 0 where
  pub name : Word
  pub least : ℕ
  pub most : ℕ

-- the text is a value of the option: 1 to 10 ASCII digits, leading zeros allowed, and nothing else
pub record IsValue (setting : Setting) (text : Word) (value : ℕ) : Type 0 where
  pub digits : IsNumeral 10 text
  pub few : length text ≤ 10
  pub spelled : value ≡ digits_value 10 text
  pub least : setting.least ≤ value
  pub most : value ≤ setting.most

-- the words give the option this value, as two words or as one: --workers 2, or --workers=2 ('=' is 61)
pub data Sets (setting : Setting) (value : ℕ) (words : List Word) : Type 0 where
  two : (text : Word) → IsValue setting text value → words ≡ setting.name ∷ text ∷ [] → Sets setting value words
  one : (text : Word) → IsValue setting text value → words ≡ (setting.name ++ 61 ∷ text) ∷ [] → Sets setting value words

-- the words give each of the options its value, once, in any order, and are nothing else
pub data Gives : List (Setting × ℕ) → List Word → Type 0 where
  nothing : (given : List (Setting × ℕ)) (words : List Word) → given ≡ [] → words ≡ [] → Gives given words
  first :
      (given before after : List (Setting × ℕ)) (setting : Setting) (value : ℕ) (words front back : List Word)
      → given ≡ before ++ (setting, value) ∷ after → words ≡ front ++ back
      → Sets setting value front → Gives (before ++ after) back → Gives given words

-- ---- the ranges of values

abbrev pub workers_setting : Setting
workers_setting = record { name = codes "--workers"; least = 1; most = 32 }

abbrev pub seed_setting : Setting
seed_setting = record { name = codes "--seed"; least = 0; most = 4294967295 }

abbrev pub names_setting : Setting
names_setting = record { name = codes "--names"; least = 1; most = 10000 }

abbrev pub queries_setting : Setting
queries_setting = record { name = codes "--queries"; least = 0; most = 100000 }

abbrev pub listen_setting : Setting
listen_setting = record { name = codes "--listen"; least = 1; most = 65535 }

abbrev pub upstream_setting : Setting
upstream_setting = record { name = codes "--upstream"; least = 1; most = 65535 }

abbrev pub datagrams_setting : Setting
datagrams_setting = record { name = codes "--datagrams"; least = 1; most = 5000 }

abbrev pub connections_setting : Setting
connections_setting = record { name = codes "--connections"; least = 1; most = 100 }

-- each worker listens at a port of its own, from the first one on; upstream's is none of them
pub record HasPorts (listen upstream workers : ℕ) : Type 0 where
  pub last : listen + workers - 1 ≤ 65535
  pub apart : (upstream < listen) ⊎ (listen + workers ≤ upstream)

-- ---- the options of `forward`

-- an option with the text of its value
abbrev pub Choice : Type 0
Choice = Flag × Word

abbrev pub flag_name : Flag → Word
flag_name Listen = codes "--listen"
flag_name Upstream = codes "--upstream"
flag_name Workers = codes "--workers"
flag_name Pass = codes "--pass"
flag_name Status = codes "--status"

-- the text begins with a hyphen (45)
abbrev pub begins_with_hyphen : Word → Bool
begins_with_hyphen [] = false
begins_with_hyphen (octet ∷ more) = octet == 45

-- the words are this option with its value, and then the rest: two words, of which the second begins with no hyphen, or one
pub data BeginsWith (choice : Choice) (rest words : List Word) : Type 0 where
  two :
      begins_with_hyphen choice.1 ≡ false → words ≡ flag_name choice.0 ∷ choice.1 ∷ rest
      → BeginsWith choice rest words
  one : words ≡ (flag_name choice.0 ++ 61 ∷ choice.1) ∷ rest → BeginsWith choice rest words

-- the words are these options, one behind another, and then the rest
abbrev pub AreOptions : List Choice → List Word → List Word → Type 0
AreOptions [] rest words = words ≡ rest
AreOptions (choice ∷ more) rest words =
    (behind : List Word) × BeginsWith choice behind words × AreOptions more rest behind

-- the texts that an option has among these, in their order
abbrev pub texts_of : Flag → List Choice → List Word
texts_of flag choices =
    map (λ choice. choice.1)
    (filter (λ choice. bytes_eq (flag_name flag) (flag_name choice.0)) choices)

-- the texts spell the values, each its own
abbrev pub AreSpelled : {A : Type 0} → (Word → A → Type 0) → List Word → List A → Type 0
AreSpelled Spells [] [] = Unit {0}
AreSpelled Spells [] (value ∷ values) = ⊥
AreSpelled Spells (text ∷ more) [] = ⊥
AreSpelled Spells (text ∷ more) (value ∷ values) =
    Spells text value × AreSpelled Spells more values

-- it is 0.0.0.0 or ::, which stand for every address of the machine
abbrev pub IsEvery : SocketAddr → Type 0
IsEvery place = MatchIp (socket_ip place) IsUnspecifiedV4 IsUnspecifiedV6

-- it is an IPv4-mapped IPv6 address: its first ten octets are 0, and the next two 255 (RFC 4291, section 2.5.5.2)
abbrev pub IsMapped : SocketAddr → Type 0
IsMapped place = MatchIp (socket_ip place) (λ _. ⊥) (λ ip. IsIpv4Mapped (ipv6_segments ip))

-- the text writes an address and a port at which one may listen, or which one may ask
pub record IsPlaceText (text : Word) (place : SocketAddr) : Type 0 where
  pub written : IsSocketText text place
  pub single : IsEvery place → ⊥
  pub unmapped : IsMapped place → ⊥
  pub port : 1 ≤ socket_port place

-- the text without a dot (46) at its end
abbrev pub without_dot : Word → Word
without_dot [] = []
without_dot (octet ∷ []) = if octet == 46 then [] else octet ∷ []
without_dot (octet ∷ next ∷ more) = octet ∷ without_dot (next ∷ more)

-- the octet is a letter, a digit, '-' or '_'
abbrev pub is_label_octet : ℕ → Bool
is_label_octet octet = is_ascii_alphanumeric octet || (octet == 45 || octet == 95)

-- the text is a label: 1 to 63 such octets (RFC 1035, section 2.3.4)
pub record IsLabelText (text : Word) : Type 0 where
  pub size : HasLabelLength text
  pub octets : All (λ octet. IsTrue (is_label_octet octet)) text

-- the parts are the labels of the name, which keeps them with A to Z lowered and has at most 255 octets (RFC 1035, section 2.3.4)
pub record AreLabelsOf (parts : List Word) (name : List Label) : Type 0 where
  pub each : All IsLabelText parts
  pub kept : name ≡ map lowered parts
  pub fits : length (wire_of name) ≤ 255

-- the text writes the name, label by label with dots between them, and maybe one at the end
abbrev pub IsNameText : Word → List Label → Type 0
IsNameText text name = AreLabelsOf (slice_split (λ octet. octet == 46) (without_dot text)) name

-- the text is the path, octet by octet, and has one at least
pub record IsPathText (text path : Word) : Type 0 where
  pub same : path ≡ text
  pub some : 1 ≤ length text

-- the options set these: up to eight places at which to listen, no two the same; one server at most, at none of them; one count of
-- workers at most; up to 16 names that are passed; and one file at most. Each is set by an option of its own
pub record AreSet
    (choices : List Choice) (places servers : List SocketAddr) (counts : List ℕ)
    (names : List (List Label)) (files : List Word) : Type 0 where
  pub listens : AreSpelled IsPlaceText (texts_of Listen choices) places
  pub few : length places ≤ 8
  pub apart : AllPairs (λ one other. one ≢ other) places
  pub asks : AreSpelled IsPlaceText (texts_of Upstream choices) servers
  pub one_server : length servers ≤ 1
  pub elsewhere : All (λ server. Contains places server → ⊥) servers
  pub workers : AreSpelled (IsValue workers_setting) (texts_of Workers choices) counts
  pub one_count : length counts ≤ 1
  pub passes : AreSpelled IsNameText (texts_of Pass choices) names
  pub few_passes : length names ≤ 16
  pub tells : AreSpelled IsPathText (texts_of Status choices) files
  pub one_file : length files ≤ 1

-- the words behind `forward` are its options, and ask for this: one place at least at which to listen, one server, one count of
-- workers, and maybe names and a file
pub record AsksForward (words : List Word) (settings : ForwardSettings) : Type 0 where
  pub choices : List Choice
  pub given : AreOptions choices [] words
  pub some : 1 ≤ length settings.listens
  pub set :
      AreSet choices settings.listens (settings.upstream ∷ []) (settings.workers ∷ [])
      settings.passes (option_to_list settings.status)

-- ---- the commands

abbrev pub topic_name : Topic → Word
topic_name topic.Replay = codes "replay"
topic_name topic.Selfrun = codes "selfrun"
topic_name topic.Serve = codes "serve"
topic_name topic.Chase = codes "chase"
topic_name topic.Redirect = codes "redirect"
topic_name topic.Follow = codes "follow"
topic_name topic.Tcp = codes "tcp"
topic_name topic.Audit = codes "audit"
topic_name topic.Forward = codes "forward"

-- this word, alone or behind a command's name
abbrev pub about : Option Topic → Word → List Word
about None word = word ∷ []
about (Some topic) word = topic_name topic ∷ word ∷ []

-- the words after a command's name are its options; `chase`, `redirect`, `follow` and `audit` have none
abbrev pub Means : List Word → Command → Type 0
Means words (Replay workers) =
    (options : List Word) × (words ≡ codes "replay" ∷ options) × Gives ((workers_setting, workers) ∷ []) options
Means words (Selfrun seed names queries) =
    (options : List Word) × (words ≡ codes "selfrun" ∷ options)
    × Gives ((seed_setting, seed) ∷ (names_setting, names) ∷ (queries_setting, queries) ∷ []) options
Means words (Serve listen upstream workers datagrams) =
    (options : List Word) × (words ≡ codes "serve" ∷ options)
    × Gives ((listen_setting, listen) ∷ (upstream_setting, upstream) ∷ (workers_setting, workers)
    ∷ (datagrams_setting, datagrams) ∷ []) options
    × HasPorts listen upstream workers
Means words Chase = words ≡ codes "chase" ∷ []
Means words Redirect = words ≡ codes "redirect" ∷ []
Means words Follow = words ≡ codes "follow" ∷ []
Means words (Tcp listen connections) =
    (options : List Word) × (words ≡ codes "tcp" ∷ options)
    × Gives ((listen_setting, listen) ∷ (connections_setting, connections) ∷ []) options
Means words Audit = words ≡ codes "audit" ∷ []
Means words (Forward settings) =
    (options : List Word) × (words ≡ codes "forward" ∷ options) × AsksForward options settings
Means words (Help topic) = words ≡ about topic (codes "--help")
Means words Version = (topic : Option Topic) × (words ≡ about topic (codes "--version"))

abbrev pub texts : List (String Global) → List Word
texts words = map string_bytes words

-- the words are this command
abbrev pub AreWordsOf : List (String Global) → Command → Type 0
AreWordsOf words command = Means (texts words) command

-- they are one
abbrev pub IsCommand : List (String Global) → Type 0
IsCommand words = (command : Command) × AreWordsOf words command
