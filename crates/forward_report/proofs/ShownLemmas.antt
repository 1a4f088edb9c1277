-- What the status shows of the counters.
use Rattle.std.proofs.Common.{◌≡◌, ℕ, List, refl, sym, ◌∙◌}
use Rattle.std.specs.Prelude.{◌&&◌, Option, Some, bytes_eq}
use Rattle.std.specs.List.{find}
use Rattle.counters.specs.declared.counter.Counter.{Counter}
use Rattle.counters.specs.declared.counter.Counter.TheVariants as counters
use Rattle.counters.specs.declared.counter.TheConstants.Counter as counter
use Rattle.forward_report.specs.Laws.{EachCounterIsShownOnce, NoTwoCountersAreAlike, shown}
use Rattle.forward_report.specs.Status.{case_of, family_of, name_of}

pub shown_once : EachCounterIsShownOnce
unfolding shown
shown_once counters.Dropped = refl
shown_once counters.FormatError = refl
shown_once counters.NotImplemented = refl
shown_once counters.BadVersion = refl
shown_once counters.Set = refl
shown_once counters.NoData = refl
shown_once counters.NameError = refl
shown_once counters.Wildcard = refl
shown_once counters.Alias = refl
shown_once counters.Redirection = refl
shown_once counters.Joined = refl
shown_once counters.Asked = refl
shown_once counters.AskedAgain = refl
shown_once counters.AskedByStream = refl
shown_once counters.Late = refl
shown_once counters.Full = refl
shown_once counters.Unreadable = refl
shown_once counters.RelayedNoError = refl
shown_once counters.RelayedServerFailure = refl
shown_once counters.RelayedNameError = refl
shown_once counters.RelayedRefused = refl
shown_once counters.RelayedOther = refl
shown_once counters.Ignored = refl
shown_once counters.Unread = refl
shown_once counters.Stored = refl
shown_once counters.Passed = refl
shown_once counters.Unstored = refl
shown_once counters.Malformed = refl
shown_once counters.NotResponse = refl
shown_once counters.Truncated = refl
shown_once counters.OtherRcode = refl
shown_once counters.NotAuthentic = refl
shown_once counters.NothingToStore = refl

-- the counter of a name and a label
with_name : List ℕ → List ℕ → Option Counter
with_name name case = find (λ each. bytes_eq (name_of (family_of each)) name && bytes_eq (case_of each) case) counter.ALL

named : (one : Counter) → with_name (name_of (family_of one)) (case_of one) ≡ Some one
unfolding with_name
named counters.Dropped = refl
named counters.FormatError = refl
named counters.NotImplemented = refl
named counters.BadVersion = refl
named counters.Set = refl
named counters.NoData = refl
named counters.NameError = refl
named counters.Wildcard = refl
named counters.Alias = refl
named counters.Redirection = refl
named counters.Joined = refl
named counters.Asked = refl
named counters.AskedAgain = refl
named counters.AskedByStream = refl
named counters.Late = refl
named counters.Full = refl
named counters.Unreadable = refl
named counters.RelayedNoError = refl
named counters.RelayedServerFailure = refl
named counters.RelayedNameError = refl
named counters.RelayedRefused = refl
named counters.RelayedOther = refl
named counters.Ignored = refl
named counters.Unread = refl
named counters.Stored = refl
named counters.Passed = refl
named counters.Unstored = refl
named counters.Malformed = refl
named counters.NotResponse = refl
named counters.Truncated = refl
named counters.OtherRcode = refl
named counters.NotAuthentic = refl
named counters.NothingToStore = refl

pub none_alike : NoTwoCountersAreAlike
none_alike one other name case =
    let same : Some one ≡ Some other = sym (named one) ∙ (λ i. with_name (name i) (case i)) ∙ named other in
    cc
