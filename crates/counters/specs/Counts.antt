-- What is counted, and how often.
use Rattle.std.specs.Prelude.{◌≡◌, ℕ, ◌+◌, ◌%◌, ◌^◌, ◌==◌, if◌then◌else◌, List, fold, get_or, set, replicate}
use Rattle.std.specs.List.{sum_by}
use Rattle.counters.specs.declared.counter.Counter.{Counter}
use Rattle.counters.specs.declared.counter.Counter.TheVariants as counters
use Rattle.counters.specs.declared.counter.TheConstants.{COUNTERS}

-- a counter's place among all
abbrev pub index_of : Counter → ℕ
index_of counters.Dropped = 0
index_of counters.FormatError = 1
index_of counters.NotImplemented = 2
index_of counters.BadVersion = 3
index_of counters.Set = 4
index_of counters.NoData = 5
index_of counters.NameError = 6
index_of counters.Wildcard = 7
index_of counters.Alias = 8
index_of counters.Redirection = 9
index_of counters.Joined = 10
index_of counters.Asked = 11
index_of counters.AskedAgain = 12
index_of counters.AskedByStream = 13
index_of counters.Late = 14
index_of counters.Full = 15
index_of counters.Unreadable = 16
index_of counters.RelayedNoError = 17
index_of counters.RelayedServerFailure = 18
index_of counters.RelayedNameError = 19
index_of counters.RelayedRefused = 20
index_of counters.RelayedOther = 21
index_of counters.Ignored = 22
index_of counters.Unread = 23
index_of counters.Stored = 24
index_of counters.Passed = 25
index_of counters.Unstored = 26
index_of counters.Malformed = 27
index_of counters.NotResponse = 28
index_of counters.Truncated = 29
index_of counters.OtherRcode = 30
index_of counters.NotAuthentic = 31
index_of counters.NothingToStore = 32

-- so many more of a counter
pub record Tally : Type 0 where
  pub counter : Counter
  pub number : ℕ

abbrev pub times : ℕ → Counter → Tally
times number counter = record { counter = counter; number = number }

-- ---- all counts, each at its counter's place

unfoldable pub no_counts : List ℕ
no_counts = replicate COUNTERS 0

abbrev pub count_of : List ℕ → Counter → ℕ
count_of counts counter = get_or counts (index_of counter) 0

-- a count begins anew behind 2^64 - 1
abbrev pub with_tally : List ℕ → Tally → List ℕ
with_tally counts tally =
    set counts (index_of tally.counter) ((count_of counts tally.counter + tally.number) % 2 ^ 64)

-- all of them, in order
abbrev pub counted : List Tally → List ℕ → List ℕ
counted tallies counts = fold with_tally counts tallies

-- ---- what a count says

abbrev pub number_for : Counter → Tally → ℕ
number_for counter tally = if index_of tally.counter == index_of counter then tally.number else 0

-- it is how often its counter was counted, and nothing else
abbrev pub EachCountIsASum : Type 0
EachCountIsASum =
    (tallies : List Tally) (counter : Counter)
    → count_of (counted tallies no_counts) counter ≡ sum_by (number_for counter) tallies % 2 ^ 64

-- no two counters have one place
abbrev pub EachHasItsPlace : Type 0
EachHasItsPlace = (one other : Counter) → index_of one ≡ index_of other → one ≡ other
