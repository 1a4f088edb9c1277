-- The status, in the text form of Prometheus (version 0.0.4).
use Rattle.std.specs.Prelude.{ℕ, ◌==◌, if◌then◌else◌, Bool, List, [], ◌++◌, codes, decimal}
use Rattle.std.specs.List.{enumerate_from, flat_map}
use Rattle.counters.specs.Counts.{count_of}
use Rattle.counters.specs.declared.counter.Counter.{Counter}
use Rattle.counters.specs.declared.counter.Counter.TheVariants as counters
use Rattle.counters.specs.declared.counter.TheConstants.Counter as counter
use Rattle.forward_report.specs.Calls.{failures_in}
use Rattle.forward_report.specs.declared.cache_report.CacheReport.{CacheReport}
use Rattle.forward_report.specs.declared.call.Call.{Call}
use Rattle.forward_report.specs.declared.call.Call.TheVariants as calls
use Rattle.forward_report.specs.declared.call.TheConstants.Call as call
use Rattle.forward_report.specs.declared.family.Family.{Family}
use Rattle.forward_report.specs.declared.family.Family.TheVariants as families
use Rattle.forward_report.specs.declared.family.TheConstants.Family as family
use Rattle.forward_report.specs.declared.status.Kind.{Kind}
use Rattle.forward_report.specs.declared.status.Kind.TheVariants.{Counts, Gauge}
use Rattle.forward_report.specs.declared.worker_report.WorkerReport.{WorkerReport}

-- ---- lines

abbrev pub word_of : Kind → List ℕ
word_of Counts = codes "counter"
word_of Gauge = codes "gauge"

-- what stands above the lines of a name
abbrev pub head : List ℕ → List ℕ → Kind → List ℕ
head name help kind =
    codes "# HELP " ++ name ++ codes " " ++ help ++ codes "\n"
    ++ codes "# TYPE " ++ name ++ codes " " ++ word_of kind ++ codes "\n"

-- a number of one worker: the name, its labels and the number
abbrev pub line : List ℕ → List ℕ → ℕ → ℕ → List ℕ
line name case worker number =
    name ++ codes "{" ++ case ++ codes "worker=\"" ++ decimal worker ++ codes "\"} "
    ++ decimal number ++ codes "\n"

-- a number of the whole, which is alone under its name
abbrev pub single : List ℕ → List ℕ → Kind → ℕ → List ℕ
single name help kind number = head name help kind ++ name ++ codes " " ++ decimal number ++ codes "\n"

-- lines of each worker, by its place among them
abbrev pub of_each : (ℕ → WorkerReport → List ℕ) → List WorkerReport → List ℕ
of_each lines workers = flat_map (λ (worker, report). lines worker report) (enumerate_from 0 workers)

-- ---- the counters

abbrev pub name_of : Family → List ℕ
name_of families.Answered = codes "dnsreplay_answered_total"
name_of families.Told = codes "dnsreplay_told_total"
name_of families.Dropped = codes "dnsreplay_dropped_total"
name_of families.Forwarded = codes "dnsreplay_forwarded_total"
name_of families.Joined = codes "dnsreplay_joined_total"
name_of families.AskedAgain = codes "dnsreplay_asked_again_total"
name_of families.AskedByStream = codes "dnsreplay_asked_by_stream_total"
name_of families.Failed = codes "dnsreplay_failed_total"
name_of families.Relayed = codes "dnsreplay_relayed_total"
name_of families.IgnoredAnswers = codes "dnsreplay_ignored_answers_total"
name_of families.UnreadAnswers = codes "dnsreplay_unread_answers_total"
name_of families.Stored = codes "dnsreplay_stored_total"
name_of families.NotStored = codes "dnsreplay_not_stored_total"

abbrev pub help_of : Family → List ℕ
help_of families.Answered = codes "Queries answered by the cache."
help_of families.Told = codes "Queries answered by an error."
help_of families.Dropped = codes "Messages of clients that got no reply."
help_of families.Forwarded = codes "Queries whose question was asked of the upstream."
help_of families.Joined = codes "Queries that waited for the answer to an equal one."
help_of families.AskedAgain = codes "Waiting questions that were asked again."
help_of families.AskedByStream = codes "Waiting questions that were asked again by a stream."
help_of families.Failed = codes "Clients that got SERVFAIL of the forwarder."
help_of families.Relayed = codes "Clients that got the answer of the upstream."
help_of families.IgnoredAnswers = codes "Messages of the upstream that no question waited for."
help_of families.UnreadAnswers = codes "Messages of the upstream passed over for want of memory."
help_of families.Stored = codes "Answers of which records were stored."
help_of families.NotStored = codes "Answers of which nothing was stored."

-- under which name a counter is shown
abbrev pub family_of : Counter → Family
family_of counters.Dropped = families.Dropped
family_of counters.FormatError = families.Told
family_of counters.NotImplemented = families.Told
family_of counters.BadVersion = families.Told
family_of counters.Set = families.Answered
family_of counters.NoData = families.Answered
family_of counters.NameError = families.Answered
family_of counters.Wildcard = families.Answered
family_of counters.Alias = families.Answered
family_of counters.Redirection = families.Answered
family_of counters.Joined = families.Joined
family_of counters.Asked = families.Forwarded
family_of counters.AskedAgain = families.AskedAgain
family_of counters.AskedByStream = families.AskedByStream
family_of counters.Late = families.Failed
family_of counters.Full = families.Failed
family_of counters.Unreadable = families.Failed
family_of counters.RelayedNoError = families.Relayed
family_of counters.RelayedServerFailure = families.Relayed
family_of counters.RelayedNameError = families.Relayed
family_of counters.RelayedRefused = families.Relayed
family_of counters.RelayedOther = families.Relayed
family_of counters.Ignored = families.IgnoredAnswers
family_of counters.Unread = families.UnreadAnswers
family_of counters.Stored = families.Stored
family_of counters.Passed = families.NotStored
family_of counters.Unstored = families.NotStored
family_of counters.Malformed = families.NotStored
family_of counters.NotResponse = families.NotStored
family_of counters.Truncated = families.NotStored
family_of counters.OtherRcode = families.NotStored
family_of counters.NotAuthentic = families.NotStored
family_of counters.NothingToStore = families.NotStored

-- what tells it from the others of that name
abbrev pub case_of : Counter → List ℕ
case_of counters.Dropped = []
case_of counters.FormatError = codes "error=\"format_error\","
case_of counters.NotImplemented = codes "error=\"not_implemented\","
case_of counters.BadVersion = codes "error=\"bad_version\","
case_of counters.Set = codes "by=\"set\","
case_of counters.NoData = codes "by=\"no_data\","
case_of counters.NameError = codes "by=\"name_error\","
case_of counters.Wildcard = codes "by=\"wildcard\","
case_of counters.Alias = codes "by=\"alias\","
case_of counters.Redirection = codes "by=\"redirection\","
case_of counters.Joined = []
case_of counters.Asked = []
case_of counters.AskedAgain = []
case_of counters.AskedByStream = []
case_of counters.Late = codes "why=\"late\","
case_of counters.Full = codes "why=\"full\","
case_of counters.Unreadable = codes "why=\"unreadable\","
case_of counters.RelayedNoError = codes "rcode=\"NOERROR\","
case_of counters.RelayedServerFailure = codes "rcode=\"SERVFAIL\","
case_of counters.RelayedNameError = codes "rcode=\"NXDOMAIN\","
case_of counters.RelayedRefused = codes "rcode=\"REFUSED\","
case_of counters.RelayedOther = codes "rcode=\"other\","
case_of counters.Ignored = []
case_of counters.Unread = []
case_of counters.Stored = []
case_of counters.Passed = codes "why=\"passed\","
case_of counters.Unstored = codes "why=\"memory\","
case_of counters.Malformed = codes "why=\"malformed\","
case_of counters.NotResponse = codes "why=\"not_response\","
case_of counters.Truncated = codes "why=\"truncated\","
case_of counters.OtherRcode = codes "why=\"rcode\","
case_of counters.NotAuthentic = codes "why=\"not_authentic\","
case_of counters.NothingToStore = codes "why=\"nothing\","

abbrev pub place_of_family : Family → ℕ
place_of_family families.Answered = 0
place_of_family families.Told = 1
place_of_family families.Dropped = 2
place_of_family families.Forwarded = 3
place_of_family families.Joined = 4
place_of_family families.AskedAgain = 5
place_of_family families.AskedByStream = 6
place_of_family families.Failed = 7
place_of_family families.Relayed = 8
place_of_family families.IgnoredAnswers = 9
place_of_family families.UnreadAnswers = 10
place_of_family families.Stored = 11
place_of_family families.NotStored = 12

abbrev pub is_of : Family → Counter → Bool
is_of family counter = place_of_family (family_of counter) == place_of_family family

-- the line of a counter, where it is shown under that name
abbrev pub count_text : Family → ℕ → List ℕ → Counter → List ℕ
count_text family worker counts counter =
    if is_of family counter then line (name_of family) (case_of counter) worker (count_of counts counter) else []

-- those of one worker
abbrev pub counts_text : Family → ℕ → List ℕ → List ℕ
counts_text family worker counts = flat_map (count_text family worker counts) counter.ALL

abbrev pub family_text : List WorkerReport → Family → List ℕ
family_text workers family =
    head (name_of family) (help_of family) Counts
    ++ of_each (λ worker report. counts_text family worker report.counts) workers

-- ---- the calls that failed

abbrev pub call_case : Call → List ℕ
call_case calls.Wait = codes "call=\"wait\","
call_case calls.ReceiveQuery = codes "call=\"receive_query\","
call_case calls.ReceiveAnswer = codes "call=\"receive_answer\","
call_case calls.Reply = codes "call=\"reply\","
call_case calls.Socket = codes "call=\"socket\","
call_case calls.Bind = codes "call=\"bind\","
call_case calls.Connect = codes "call=\"connect\","
call_case calls.Watch = codes "call=\"watch\","
call_case calls.Send = codes "call=\"send\","
call_case calls.Accept = codes "call=\"accept\","
call_case calls.ConnectStream = codes "call=\"connect_stream\","
call_case calls.ReadStream = codes "call=\"read_stream\","
call_case calls.WriteStream = codes "call=\"write_stream\","

abbrev pub failure_text : ℕ → List ℕ → Call → List ℕ
failure_text worker faults call =
    line (codes "dnsreplay_faults_total") (call_case call) worker (failures_in faults call)

-- those of one worker
abbrev pub failures_text : ℕ → List ℕ → List ℕ
failures_text worker faults = flat_map (failure_text worker faults) call.ALL

abbrev pub faults_text : List WorkerReport → List ℕ
faults_text workers =
    head (codes "dnsreplay_faults_total") (codes "Calls of the system that failed.") Counts
    ++ of_each (λ worker report. failures_text worker report.faults) workers

-- ---- all of it

abbrev pub held_text : CacheReport → List ℕ
held_text cache =
    single (codes "dnsreplay_held_records") (codes "Records that the cache holds.") Gauge cache.records
    ++ single (codes "dnsreplay_held_zones") (codes "Zones of which the cache holds a record.") Gauge cache.zones
    ++ single (codes "dnsreplay_held_chains") (codes "NSEC and NSEC3 chains of which the cache holds a record.") Gauge cache.chains

abbrev pub cache_text : CacheReport → List ℕ
cache_text cache =
    held_text cache
    ++ single (codes "dnsreplay_batches_total") (codes "Batches that made the cache.") Counts cache.version

unfoldable pub status_text_of : List WorkerReport → CacheReport → List ℕ
status_text_of workers cache =
    flat_map (family_text workers) family.ALL ++ faults_text workers ++ cache_text cache
