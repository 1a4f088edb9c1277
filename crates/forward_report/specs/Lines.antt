-- The lines that tell what is noticed.
use Rattle.std.specs.Prelude.{ℕ, List, ◌++◌, codes, decimal}
use Rattle.forward_report.specs.declared.call.Call.{Call}
use Rattle.forward_report.specs.declared.call.Call.TheVariants as calls
use Rattle.forward_report.specs.declared.notice.What.{What}
use Rattle.forward_report.specs.declared.notice.What.TheVariants.{Failed, Silent, Back}

abbrev pub failed_of : Call → List ℕ
failed_of calls.Wait = codes "waits for sockets that failed"
failed_of calls.ReceiveQuery = codes "queries that could not be received"
failed_of calls.ReceiveAnswer = codes "answers that could not be received"
failed_of calls.Reply = codes "replies that could not be sent"
failed_of calls.Socket = codes "sockets that could not be made"
failed_of calls.Bind = codes "sockets that could not be bound"
failed_of calls.Connect = codes "sockets that could not be connected"
failed_of calls.Watch = codes "sockets that could not be watched"
failed_of calls.Send = codes "questions that could not be sent"
failed_of calls.Accept = codes "connections of clients that could not be accepted"
failed_of calls.ConnectStream = codes "streams that could not be connected"
failed_of calls.ReadStream = codes "streams that could not be read"
failed_of calls.WriteStream = codes "streams that could not be written"

-- what failed, how often, and the cause
abbrev pub failed_line : List ℕ → ℕ → List ℕ → List ℕ
failed_line failed count cause =
    codes "dnsreplay: " ++ failed ++ codes " in the last minute: " ++ decimal count
    ++ codes ", the last for: " ++ cause ++ codes "\n"

abbrev pub notice_text_of : What → ℕ → List ℕ → List ℕ
notice_text_of (Failed call) count cause = failed_line (failed_of call) count cause
notice_text_of Silent count cause =
    codes "dnsreplay: the upstream is silent; clients that got SERVFAIL since its last answer: "
    ++ decimal count ++ codes "\n"
notice_text_of Back count cause =
    codes "dnsreplay: the upstream answers again; clients that got SERVFAIL meanwhile: "
    ++ decimal count ++ codes "\n"
