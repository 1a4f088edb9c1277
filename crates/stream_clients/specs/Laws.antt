-- What holds of every run of calls.
use Rattle.std.specs.Prelude.{◌≡◌, ◌≢◌, ◌≤◌, ◌<◌, ℕ, ◌+◌, List, [], ◌∷◌, ◌++◌, length, Some, None, AllPairs, Contains}
use Rattle.stream_front.specs.Split.{Begins, IsFramed, framed}
use Rattle.stream_clients.specs.Number.{Client, number_of}
use Rattle.stream_clients.specs.Connection.{Change, Connection}
use Rattle.stream_clients.specs.Places.{Place, changed, connection_of, no_connections}
use Rattle.stream_clients.specs.Steps.{IsThere, Step, Passed, after_one, answer_by, message_by, new_by, reply_by, sent_by, taken_by}

-- ---- a run

abbrev pub after : List Step → List Place → List Place
after [] places = places
after (step ∷ more) places = after more (after_one step places)

-- what the calls of a run do, one behind the other
abbrev pub over : {X : Type 0} → (Step → List Place → List X) → List Step → List Place → List X
over by [] places = []
over by (step ∷ more) places = by step places ++ over by more (after_one step places)

-- each message that is taken stands next
abbrev pub AreThere : List Step → List Place → Type 0
AreThere [] places = Unit {0}
AreThere (step ∷ more) places = IsThere step places × AreThere more (after_one step places)

-- from the beginning
abbrev pub made : List Step → List Place
made steps = after steps no_connections

abbrev pub done : {X : Type 0} → (Step → List Place → List X) → List Step → List X
done by steps = over by steps no_connections

-- ---- the laws

-- no two connections have one number, whenever they were open
abbrev pub EachHasItsNumber : Type 0
EachHasItsNumber =
    (steps : List Step) → AllPairs (λ one other. number_of one ≢ number_of other) (done new_by steps)

-- a client whose connection has gone has none again
abbrev pub TheGoneStayGone : Type 0
TheGoneStayGone =
    (before later : List Step) (client : Client) → Contains (done new_by before) client
    → connection_of client (made before) ≡ None
    → connection_of client (after later (made before)) ≡ None

-- what is for a client whose connection has gone changes nothing
abbrev pub TheGoneGetNothing : Type 0
TheGoneGetNothing =
    (client : Client) (change : Change) (places : List Place) → connection_of client places ≡ None
    → changed client change places ≡ places

-- what is for one client changes no other's connection, also where it has the same place
abbrev pub OthersAreLeftAlone : Type 0
OthersAreLeftAlone =
    (client other : Client) (change : Change) (places : List Place) → client ≢ other
    → connection_of other (changed client change places) ≡ connection_of other places

-- what was written to a client whose connection is open, and what waits for it, are its replies, each behind its length, in order
abbrev pub EachGetsItsReplies : Type 0
EachGetsItsReplies =
    (steps : List Step) (client : Client) (c : Connection)
    → connection_of client (made steps) ≡ Some c
    → done (sent_by client) steps ++ c.output ≡ done (reply_by client) steps

-- what was taken of a connection that is open is its messages, each behind its length, and what belongs to none yet, whatever the pieces
abbrev pub EachStreamIsSplit : Type 0
EachStreamIsSplit =
    (steps : List Step) (client : Client) (c : Connection) → AreThere steps no_connections
    → connection_of client (made steps) ≡ Some c
    → Begins (done (taken_by client) steps) (done (message_by client) steps) c.left

-- a message that stands first, behind its length, may be taken unless 32 have no reply, and then it is that one which is taken
abbrev pub AWholeMessageIsNext : Type 0
AWholeMessageIsNext =
    (client : Client) (places : List Place) (c : Connection) (message behind : List ℕ)
    → connection_of client places ≡ Some c
    → c.left ≡ framed message ++ behind → IsFramed message → c.unanswered < 32
    → IsThere (Passed client) places × (message_by client (Passed client) places ≡ message ∷ [])

-- how many messages of the client's were taken
abbrev pub taken_of : Client → List Step → ℕ
taken_of client steps = length (done (message_by client) steps)

-- how many were answered, or are known to have no reply
abbrev pub answered_of : Client → List Step → ℕ
answered_of client steps = length (done (answer_by client) steps)

-- at no moment were more of the client's messages answered than taken
abbrev pub NoneIsAnsweredBefore : Client → List Step → Type 0
NoneIsAnsweredBefore client steps =
    (before later : List Step) → before ++ later ≡ steps
    → answered_of client before ≤ taken_of client before

-- No more than 32 messages of a connection have no reply yet. All others that were taken were answered, and nothing else was, where none
-- is answered before it is taken
abbrev pub FewAreUnanswered : Type 0
FewAreUnanswered =
    (steps : List Step) (client : Client) (c : Connection) → AreThere steps no_connections
    → connection_of client (made steps) ≡ Some c
    → (c.unanswered ≤ 32)
    × (taken_of client steps ≤ c.unanswered + answered_of client steps)
    × (NoneIsAnsweredBefore client steps
    → taken_of client steps ≡ c.unanswered + answered_of client steps)
