use Rattle.std.proofs.Common.{◌≡◌, ◌⊎◌, ◌∙◌, refl, sym, subst}
use Rattle.command_line.specs.Help.{help_of, version_line}
use Rattle.command_line.specs.Words.{texts}
use Rattle.command_line.specs.declared.command.Command.TheVariants.{Replay, Selfrun, Serve, Tcp, Audit, Forward, Help, Version}
use Rattle.command_line.proofs.CommandLemmas.{replay_in_range, same_selfrun, selfrun_in_range}
use Rattle.serving.specs.Back.{CameBack, AllServedWhole}
use Rattle.running.specs.Help.{IsTextCut, IsTextWritten}
use Rattle.running.specs.Serve.{EndedInWant, ServedInPart}
use Rattle.running.proofs.AskLemmas.{asks_replay, none_asked}
use Rattle.running.proofs.ForwardLemmas.{asked_is_found, few_listens, forwarders_in_range}
use Rattle.running.proofs.HelpLemmas.{asks_help, asks_no_text, asks_version, none_told, tells_alone, tells_no_replay}
use Rattle.running.proofs.ServeLemmas.{found_means, none_found, few_datagrams, same_service, same_tcp, workers_in_range}
use Rattle.running.proofs.commands.run.Goals as goal

pub run_replay-requires-after_bounds : goal.run_replay-requires-after_bounds
run_replay-requires-after_bounds g c = λ κs outlives.
    replay_in_range (texts c.args.words.now) c.in-Replay.workers
    (found_means c.args.words.now c.in-Ok-Some.field-0 c.in-Ok-Some.command (Replay c.in-Replay.workers) c.in-Ok-Some.field-0-is c.in-Replay.is c.in-Ok-Some.ensures.read)

pub run_selfrun-requires-clause-names : goal.run_selfrun-requires-clause-names
run_selfrun-requires-clause-names g c = λ κs outlives.
    (selfrun_in_range (texts c.args.words.now) c.in-Selfrun.seed c.in-Selfrun.names c.in-Selfrun.queries
    (found_means c.args.words.now c.in-Ok-Some.field-0 c.in-Ok-Some.command (Selfrun c.in-Selfrun.seed c.in-Selfrun.names c.in-Selfrun.queries) c.in-Ok-Some.field-0-is c.in-Selfrun.is c.in-Ok-Some.ensures.read)).0

pub run_selfrun-requires-clause-queries : goal.run_selfrun-requires-clause-queries
run_selfrun-requires-clause-queries g c = λ κs outlives.
    (selfrun_in_range (texts c.args.words.now) c.in-Selfrun.seed c.in-Selfrun.names c.in-Selfrun.queries
    (found_means c.args.words.now c.in-Ok-Some.field-0 c.in-Ok-Some.command (Selfrun c.in-Selfrun.seed c.in-Selfrun.names c.in-Selfrun.queries) c.in-Ok-Some.field-0-is c.in-Selfrun.is c.in-Ok-Some.ensures.read)).1

pub run_serve-requires-clause-some : goal.run_serve-requires-clause-some
run_serve-requires-clause-some g c = λ κs outlives.
    (workers_in_range (texts c.args.words.now) c.in-Serve.listen c.in-Serve.upstream c.in-Serve.workers c.in-Serve.datagrams
    (found_means c.args.words.now c.in-Ok-Some.field-0 c.in-Ok-Some.command (Serve c.in-Serve.listen c.in-Serve.upstream c.in-Serve.workers c.in-Serve.datagrams) c.in-Ok-Some.field-0-is c.in-Serve.is c.in-Ok-Some.ensures.read)).0

pub run_serve-requires-clause-most : goal.run_serve-requires-clause-most
run_serve-requires-clause-most g c = λ κs outlives.
    (workers_in_range (texts c.args.words.now) c.in-Serve.listen c.in-Serve.upstream c.in-Serve.workers c.in-Serve.datagrams
    (found_means c.args.words.now c.in-Ok-Some.field-0 c.in-Ok-Some.command (Serve c.in-Serve.listen c.in-Serve.upstream c.in-Serve.workers c.in-Serve.datagrams) c.in-Ok-Some.field-0-is c.in-Serve.is c.in-Ok-Some.ensures.read)).1

pub run_serve-requires-clause-few : goal.run_serve-requires-clause-few
run_serve-requires-clause-few g c = λ κs outlives.
    few_datagrams (texts c.args.words.now) c.in-Serve.listen c.in-Serve.upstream c.in-Serve.workers c.in-Serve.datagrams
    (found_means c.args.words.now c.in-Ok-Some.field-0 c.in-Ok-Some.command (Serve c.in-Serve.listen c.in-Serve.upstream c.in-Serve.workers c.in-Serve.datagrams) c.in-Ok-Some.field-0-is c.in-Serve.is c.in-Ok-Some.ensures.read)

pub returns-in-Ok-None-clause-complete : goal.returns-in-Ok-None-clause-complete
returns-in-Ok-None-clause-complete g c = λ answering workers asks input is source sink. absurd (none_asked c.args.words.now c.in-Ok-None.field-0 c.in-Ok-None.field-0-is c.in-Ok-None.ensures.every answering workers asks)

pub returns-in-Ok-None-clause-summary_ends : goal.returns-in-Ok-None-clause-summary_ends
returns-in-Ok-None-clause-summary_ends g c = λ seed names queries means. absurd (none_found c.in-Ok-None.field-0 (Selfrun seed names queries) c.in-Ok-None.field-0-is (c.in-Ok-None.ensures.every (Selfrun seed names queries) means))

pub returns-in-Ok-None-clause-summary_complete : goal.returns-in-Ok-None-clause-summary_complete
returns-in-Ok-None-clause-summary_complete g c = λ seed names queries means calm. absurd (none_found c.in-Ok-None.field-0 (Selfrun seed names queries) c.in-Ok-None.field-0-is (c.in-Ok-None.ensures.every (Selfrun seed names queries) means))

pub returns-in-Ok-None-clause-serve_ends : goal.returns-in-Ok-None-clause-serve_ends
returns-in-Ok-None-clause-serve_ends g c = λ l u w d means. absurd (none_found c.in-Ok-None.field-0 (Serve l u w d) c.in-Ok-None.field-0-is (c.in-Ok-None.ensures.every (Serve l u w d) means))

pub returns-in-Ok-None-clause-serve_complete : goal.returns-in-Ok-None-clause-serve_complete
returns-in-Ok-None-clause-serve_complete g c = λ l u w d means calm. absurd (none_found c.in-Ok-None.field-0 (Serve l u w d) c.in-Ok-None.field-0-is (c.in-Ok-None.ensures.every (Serve l u w d) means))

pub returns-in-Ok-None-clause-tcp_ends : goal.returns-in-Ok-None-clause-tcp_ends
returns-in-Ok-None-clause-tcp_ends g c = λ l n means. absurd (none_found c.in-Ok-None.field-0 (Tcp l n) c.in-Ok-None.field-0-is (c.in-Ok-None.ensures.every (Tcp l n) means))

pub returns-in-Ok-None-clause-tcp_complete : goal.returns-in-Ok-None-clause-tcp_complete
returns-in-Ok-None-clause-tcp_complete g c = λ l n means input is source gateway. absurd (none_found c.in-Ok-None.field-0 (Tcp l n) c.in-Ok-None.field-0-is (c.in-Ok-None.ensures.every (Tcp l n) means))

pub returns-in-Ok-None-clause-audit_ends : goal.returns-in-Ok-None-clause-audit_ends
returns-in-Ok-None-clause-audit_ends g c = λ means. absurd (none_found c.in-Ok-None.field-0 Audit c.in-Ok-None.field-0-is (c.in-Ok-None.ensures.every Audit means))

pub returns-in-Ok-None-clause-audit_complete : goal.returns-in-Ok-None-clause-audit_complete
returns-in-Ok-None-clause-audit_complete g c = λ means octets is source sink. absurd (none_found c.in-Ok-None.field-0 Audit c.in-Ok-None.field-0-is (c.in-Ok-None.ensures.every Audit means))

pub returns-in-Replay-clause-good : goal.returns-in-Replay-clause-good
returns-in-Replay-clause-good g c = λ answering workers asks.
    let (by, for_all) = asks_replay c.args.words.now c.in-Ok-Some.field-0 c.in-Ok-Some.command c.in-Ok-Some.field-0-is c.in-Ok-Some.ensures.every answering workers asks c.in-Replay.workers c.in-Replay.is in
    rw (by, for_all) c.run_replay.ensures.good

pub returns-in-Replay-clause-replayed : goal.returns-in-Replay-clause-replayed
returns-in-Replay-clause-replayed g c = λ answering workers asks.
    let (by, for_all) = asks_replay c.args.words.now c.in-Ok-Some.field-0 c.in-Ok-Some.command c.in-Ok-Some.field-0-is c.in-Ok-Some.ensures.every answering workers asks c.in-Replay.workers c.in-Replay.is in
    rw (by, for_all) c.run_replay.ensures.replayed

pub returns-in-Replay-clause-cut : goal.returns-in-Replay-clause-cut
returns-in-Replay-clause-cut g c = λ answering workers asks.
    let (by, for_all) = asks_replay c.args.words.now c.in-Ok-Some.field-0 c.in-Ok-Some.command c.in-Ok-Some.field-0-is c.in-Ok-Some.ensures.every answering workers asks c.in-Replay.workers c.in-Replay.is in
    rw (by, for_all) c.run_replay.ensures.cut

pub returns-in-Replay-clause-bad_frame : goal.returns-in-Replay-clause-bad_frame
returns-in-Replay-clause-bad_frame g c = λ answering workers asks.
    let (by, for_all) = asks_replay c.args.words.now c.in-Ok-Some.field-0 c.in-Ok-Some.command c.in-Ok-Some.field-0-is c.in-Ok-Some.ensures.every answering workers asks c.in-Replay.workers c.in-Replay.is in
    rw for_all c.run_replay.ensures.bad_frame

pub returns-in-Replay-clause-taken : goal.returns-in-Replay-clause-taken
returns-in-Replay-clause-taken g c = λ answering workers asks.
    let (by, for_all) = asks_replay c.args.words.now c.in-Ok-Some.field-0 c.in-Ok-Some.command c.in-Ok-Some.field-0-is c.in-Ok-Some.ensures.every answering workers asks c.in-Replay.workers c.in-Replay.is in
    rw for_all c.run_replay.ensures.taken

pub returns-in-Replay-clause-complete : goal.returns-in-Replay-clause-complete
returns-in-Replay-clause-complete g c = λ answering workers asks.
    let (by, for_all) = asks_replay c.args.words.now c.in-Ok-Some.field-0 c.in-Ok-Some.command c.in-Ok-Some.field-0-is c.in-Ok-Some.ensures.every answering workers asks c.in-Replay.workers c.in-Replay.is in
    rw for_all c.run_replay.ensures.complete

pub returns-in-Selfrun-clause-summed : goal.returns-in-Selfrun-clause-summed
returns-in-Selfrun-clause-summed g c = λ seed names queries means.
    let same = same_selfrun c.in-Ok-Some.command c.in-Selfrun.seed c.in-Selfrun.names c.in-Selfrun.queries seed names queries c.in-Selfrun.is (sym c.in-Ok-Some.field-0-is ∙ c.in-Ok-Some.ensures.every (Selfrun seed names queries) means) in
    let one = rw same.0 at c.run_selfrun.ensures.summed in
    let two = rw same.1 at one in
    rw same.2 at two

pub returns-in-Selfrun-clause-summed_in_part : goal.returns-in-Selfrun-clause-summed_in_part
returns-in-Selfrun-clause-summed_in_part g c = λ seed names queries means.
    let same = same_selfrun c.in-Ok-Some.command c.in-Selfrun.seed c.in-Selfrun.names c.in-Selfrun.queries seed names queries c.in-Selfrun.is (sym c.in-Ok-Some.field-0-is ∙ c.in-Ok-Some.ensures.every (Selfrun seed names queries) means) in
    let one = rw same.0 at c.run_selfrun.ensures.in_part in
    let two = rw same.1 at one in
    rw same.2 at two

pub returns-in-Serve-clause-served : goal.returns-in-Serve-clause-served
returns-in-Serve-clause-served g c = λ l u w d means ends.
    subst (λ service. CameBack (g.H.Harbor.came_back c.args.harbor.now) (g.H.Harbor.came_back c.run_serve.new.harbor) (AllServedWhole service (g.C.Clock.moment c.args.clock.now)))
    (same_service c.in-Ok-Some.command c.in-Serve.listen c.in-Serve.upstream c.in-Serve.workers c.in-Serve.datagrams l u w d c.in-Serve.is (sym c.in-Ok-Some.field-0-is ∙ c.in-Ok-Some.ensures.every (Serve l u w d) means))
    (c.run_serve.ensures.served ends)

pub returns-in-Serve-clause-served_in_part : goal.returns-in-Serve-clause-served_in_part
returns-in-Serve-clause-served_in_part g c = λ l u w d means ends.
    subst (λ service. CameBack (g.H.Harbor.came_back c.args.harbor.now) (g.H.Harbor.came_back c.run_serve.new.harbor) (ServedInPart service (g.C.Clock.moment c.args.clock.now)))
    (same_service c.in-Ok-Some.command c.in-Serve.listen c.in-Serve.upstream c.in-Serve.workers c.in-Serve.datagrams l u w d c.in-Serve.is (sym c.in-Ok-Some.field-0-is ∙ c.in-Ok-Some.ensures.every (Serve l u w d) means))
    (c.run_serve.ensures.in_part ends)

pub returns-in-Serve-clause-served_in_want : goal.returns-in-Serve-clause-served_in_want
returns-in-Serve-clause-served_in_want g c = λ l u w d means ends.
    subst (λ service. (c.run_serve.new.harbor ≡ c.args.harbor.now) ⊎ CameBack (g.H.Harbor.came_back c.args.harbor.now) (g.H.Harbor.came_back c.run_serve.new.harbor) (EndedInWant service (g.C.Clock.moment c.args.clock.now)))
    (same_service c.in-Ok-Some.command c.in-Serve.listen c.in-Serve.upstream c.in-Serve.workers c.in-Serve.datagrams l u w d c.in-Serve.is (sym c.in-Ok-Some.field-0-is ∙ c.in-Ok-Some.ensures.every (Serve l u w d) means))
    (c.run_serve.ensures.in_want ends)

pub returns-in-Serve-clause-unbound : goal.returns-in-Serve-clause-unbound
returns-in-Serve-clause-unbound g c = λ none. absurd (none c.in-Serve.listen c.in-Serve.upstream c.in-Serve.workers c.in-Serve.datagrams
    (found_means c.args.words.now c.in-Ok-Some.field-0 c.in-Ok-Some.command (Serve c.in-Serve.listen c.in-Serve.upstream c.in-Serve.workers c.in-Serve.datagrams) c.in-Ok-Some.field-0-is c.in-Serve.is c.in-Ok-Some.ensures.read))

pub returns-in-Tcp-clause-connected : goal.returns-in-Tcp-clause-connected
returns-in-Tcp-clause-connected g c = λ l n means.
    let (port, many) = same_tcp c.in-Ok-Some.command c.in-Tcp.listen c.in-Tcp.connections l n c.in-Tcp.is (sym c.in-Ok-Some.field-0-is ∙ c.in-Ok-Some.ensures.every (Tcp l n) means) in
    rw many at c.run_tcp.ensures.served

pub returns-in-Tcp-clause-connected_in_part : goal.returns-in-Tcp-clause-connected_in_part
returns-in-Tcp-clause-connected_in_part g c = λ l n means.
    let (port, many) = same_tcp c.in-Ok-Some.command c.in-Tcp.listen c.in-Tcp.connections l n c.in-Tcp.is (sym c.in-Ok-Some.field-0-is ∙ c.in-Ok-Some.ensures.every (Tcp l n) means) in
    rw many at c.run_tcp.ensures.in_part

pub returns-in-Tcp-clause-listens : goal.returns-in-Tcp-clause-listens
returns-in-Tcp-clause-listens g c = λ l n means.
    let (port, many) = same_tcp c.in-Ok-Some.command c.in-Tcp.listen c.in-Tcp.connections l n c.in-Tcp.is (sym c.in-Ok-Some.field-0-is ∙ c.in-Ok-Some.ensures.every (Tcp l n) means) in
    rw port at c.run_tcp.ensures.listens

pub returns-in-Tcp-clause-unopened : goal.returns-in-Tcp-clause-unopened
returns-in-Tcp-clause-unopened g c = λ none. absurd (none c.in-Tcp.listen c.in-Tcp.connections
    (found_means c.args.words.now c.in-Ok-Some.field-0 c.in-Ok-Some.command (Tcp c.in-Tcp.listen c.in-Tcp.connections) c.in-Ok-Some.field-0-is c.in-Tcp.is c.in-Ok-Some.ensures.read))

pub run_forward-status-requires-clause-asked : goal.run_forward-status-requires-clause-asked
run_forward-status-requires-clause-asked g c = λ κs outlives.
    asked_is_found c.args.words.now c.in-Ok-Some.field-0 c.in-Ok-Some.command (Forward c.in-Forward.settings) (g.O.Outlets.asked c.args.outlets.now) c.in-Ok-Some.field-0-is c.in-Forward.is c.in-Ok-Some.ensures.every c.requires.asked

pub run_forward-status-requires-clause-few : goal.run_forward-status-requires-clause-few
run_forward-status-requires-clause-few g c = λ κs outlives.
    few_listens (texts c.args.words.now) c.in-Forward.settings
    (found_means c.args.words.now c.in-Ok-Some.field-0 c.in-Ok-Some.command (Forward c.in-Forward.settings) c.in-Ok-Some.field-0-is c.in-Forward.is c.in-Ok-Some.ensures.read)

pub run_forward-status-requires-clause-workers : goal.run_forward-status-requires-clause-workers
run_forward-status-requires-clause-workers g c = λ κs outlives.
    forwarders_in_range (texts c.args.words.now) c.in-Forward.settings
    (found_means c.args.words.now c.in-Ok-Some.field-0 c.in-Ok-Some.command (Forward c.in-Forward.settings) c.in-Ok-Some.field-0-is c.in-Forward.is c.in-Ok-Some.ensures.read)

pub returns-in-Ok-None-clause-forward_ends : goal.returns-in-Ok-None-clause-forward_ends
returns-in-Ok-None-clause-forward_ends g c = λ settings means. absurd (none_found c.in-Ok-None.field-0 (Forward settings) c.in-Ok-None.field-0-is (c.in-Ok-None.ensures.every (Forward settings) means))

pub returns-in-Ok-None-clause-forward_complete : goal.returns-in-Ok-None-clause-forward_complete
returns-in-Ok-None-clause-forward_complete g c = λ settings means calm. absurd (none_found c.in-Ok-None.field-0 (Forward settings) c.in-Ok-None.field-0-is (c.in-Ok-None.ensures.every (Forward settings) means))

pub returns-in-Ok-None-clause-text_ends : goal.returns-in-Ok-None-clause-text_ends
returns-in-Ok-None-clause-text_ends g c = λ text asks. absurd (none_told c.args.words.now c.in-Ok-None.field-0 c.in-Ok-None.field-0-is c.in-Ok-None.ensures.every text asks)

pub returns-in-Ok-None-clause-text_complete : goal.returns-in-Ok-None-clause-text_complete
returns-in-Ok-None-clause-text_complete g c = λ text asks calm. absurd (none_told c.args.words.now c.in-Ok-None.field-0 c.in-Ok-None.field-0-is c.in-Ok-None.ensures.every text asks)

pub returns-in-Forward-clause-unforwarded : goal.returns-in-Forward-clause-unforwarded
returns-in-Forward-clause-unforwarded g c = λ none. absurd (none c.in-Forward.settings
    (found_means c.args.words.now c.in-Ok-Some.field-0 c.in-Ok-Some.command (Forward c.in-Forward.settings) c.in-Ok-Some.field-0-is c.in-Forward.is c.in-Ok-Some.ensures.read))

pub returns-in-Help-clause-told : goal.returns-in-Help-clause-told
returns-in-Help-clause-told g c = λ text asks ends.
    subst (λ t. IsTextWritten t (g.K.Sink.written c.args.sink.now) (g.K.Sink.written c.tell.new.sink))
    (c.help_text.ensures ∙ asks_help c.args.words.now c.in-Ok-Some.field-0 c.in-Ok-Some.command c.in-Ok-Some.field-0-is c.in-Ok-Some.ensures.every text asks c.in-Help.topic c.in-Help.is)
    (c.tell.ensures.good ends)

pub returns-in-Help-clause-told_in_part : goal.returns-in-Help-clause-told_in_part
returns-in-Help-clause-told_in_part g c = λ text asks ends.
    subst (λ t. IsTextCut t (g.K.Sink.written c.args.sink.now) (g.K.Sink.written c.tell.new.sink))
    (c.help_text.ensures ∙ asks_help c.args.words.now c.in-Ok-Some.field-0 c.in-Ok-Some.command c.in-Ok-Some.field-0-is c.in-Ok-Some.ensures.every text asks c.in-Help.topic c.in-Help.is)
    (c.tell.ensures.cut ends)

pub returns-in-Version-clause-told : goal.returns-in-Version-clause-told
returns-in-Version-clause-told g c = λ text asks ends.
    subst (λ t. IsTextWritten t (g.K.Sink.written c.args.sink.now) (g.K.Sink.written c.tell-in-Version.new.sink))
    (asks_version c.args.words.now c.in-Ok-Some.field-0 c.in-Ok-Some.command c.in-Ok-Some.field-0-is c.in-Ok-Some.ensures.every text asks c.in-Version.is)
    (c.tell-in-Version.ensures.good ends)

pub returns-in-Version-clause-told_in_part : goal.returns-in-Version-clause-told_in_part
returns-in-Version-clause-told_in_part g c = λ text asks ends.
    subst (λ t. IsTextCut t (g.K.Sink.written c.args.sink.now) (g.K.Sink.written c.tell-in-Version.new.sink))
    (asks_version c.args.words.now c.in-Ok-Some.field-0 c.in-Ok-Some.command c.in-Ok-Some.field-0-is c.in-Ok-Some.ensures.every text asks c.in-Version.is)
    (c.tell-in-Version.ensures.cut ends)

pub returns-in-Replay-clause-told : goal.returns-in-Replay-clause-told
returns-in-Replay-clause-told g c = λ text asks. absurd (asks_no_text c.args.words.now c.in-Ok-Some.field-0 c.in-Ok-Some.command c.in-Ok-Some.field-0-is c.in-Ok-Some.ensures.every (Replay c.in-Replay.workers) c.in-Replay.is refl text asks)

pub returns-in-Replay-clause-told_in_part : goal.returns-in-Replay-clause-told_in_part
returns-in-Replay-clause-told_in_part g c = λ text asks. absurd (asks_no_text c.args.words.now c.in-Ok-Some.field-0 c.in-Ok-Some.command c.in-Ok-Some.field-0-is c.in-Ok-Some.ensures.every (Replay c.in-Replay.workers) c.in-Replay.is refl text asks)

pub returns-in-Replay-clause-text_ends : goal.returns-in-Replay-clause-text_ends
returns-in-Replay-clause-text_ends g c = λ text asks. absurd (asks_no_text c.args.words.now c.in-Ok-Some.field-0 c.in-Ok-Some.command c.in-Ok-Some.field-0-is c.in-Ok-Some.ensures.every (Replay c.in-Replay.workers) c.in-Replay.is refl text asks)

pub returns-in-Replay-clause-text_complete : goal.returns-in-Replay-clause-text_complete
returns-in-Replay-clause-text_complete g c = λ text asks. absurd (asks_no_text c.args.words.now c.in-Ok-Some.field-0 c.in-Ok-Some.command c.in-Ok-Some.field-0-is c.in-Ok-Some.ensures.every (Replay c.in-Replay.workers) c.in-Replay.is refl text asks)

pub returns-in-Replay-clause-text_unread : goal.returns-in-Replay-clause-text_unread
returns-in-Replay-clause-text_unread g c = λ text asks. absurd (asks_no_text c.args.words.now c.in-Ok-Some.field-0 c.in-Ok-Some.command c.in-Ok-Some.field-0-is c.in-Ok-Some.ensures.every (Replay c.in-Replay.workers) c.in-Replay.is refl text asks)

pub returns-in-Selfrun-clause-told : goal.returns-in-Selfrun-clause-told
returns-in-Selfrun-clause-told g c = λ text asks. absurd (asks_no_text c.args.words.now c.in-Ok-Some.field-0 c.in-Ok-Some.command c.in-Ok-Some.field-0-is c.in-Ok-Some.ensures.every (Selfrun c.in-Selfrun.seed c.in-Selfrun.names c.in-Selfrun.queries) c.in-Selfrun.is refl text asks)

pub returns-in-Selfrun-clause-told_in_part : goal.returns-in-Selfrun-clause-told_in_part
returns-in-Selfrun-clause-told_in_part g c = λ text asks. absurd (asks_no_text c.args.words.now c.in-Ok-Some.field-0 c.in-Ok-Some.command c.in-Ok-Some.field-0-is c.in-Ok-Some.ensures.every (Selfrun c.in-Selfrun.seed c.in-Selfrun.names c.in-Selfrun.queries) c.in-Selfrun.is refl text asks)

pub returns-in-Serve-clause-told : goal.returns-in-Serve-clause-told
returns-in-Serve-clause-told g c = λ text asks. absurd (asks_no_text c.args.words.now c.in-Ok-Some.field-0 c.in-Ok-Some.command c.in-Ok-Some.field-0-is c.in-Ok-Some.ensures.every (Serve c.in-Serve.listen c.in-Serve.upstream c.in-Serve.workers c.in-Serve.datagrams) c.in-Serve.is refl text asks)

pub returns-in-Serve-clause-text_ends : goal.returns-in-Serve-clause-text_ends
returns-in-Serve-clause-text_ends g c = λ text asks. absurd (asks_no_text c.args.words.now c.in-Ok-Some.field-0 c.in-Ok-Some.command c.in-Ok-Some.field-0-is c.in-Ok-Some.ensures.every (Serve c.in-Serve.listen c.in-Serve.upstream c.in-Serve.workers c.in-Serve.datagrams) c.in-Serve.is refl text asks)

pub returns-in-Serve-clause-text_complete : goal.returns-in-Serve-clause-text_complete
returns-in-Serve-clause-text_complete g c = λ text asks. absurd (asks_no_text c.args.words.now c.in-Ok-Some.field-0 c.in-Ok-Some.command c.in-Ok-Some.field-0-is c.in-Ok-Some.ensures.every (Serve c.in-Serve.listen c.in-Serve.upstream c.in-Serve.workers c.in-Serve.datagrams) c.in-Serve.is refl text asks)

pub returns-in-Tcp-clause-told : goal.returns-in-Tcp-clause-told
returns-in-Tcp-clause-told g c = λ text asks. absurd (asks_no_text c.args.words.now c.in-Ok-Some.field-0 c.in-Ok-Some.command c.in-Ok-Some.field-0-is c.in-Ok-Some.ensures.every (Tcp c.in-Tcp.listen c.in-Tcp.connections) c.in-Tcp.is refl text asks)

pub returns-in-Tcp-clause-text_ends : goal.returns-in-Tcp-clause-text_ends
returns-in-Tcp-clause-text_ends g c = λ text asks. absurd (asks_no_text c.args.words.now c.in-Ok-Some.field-0 c.in-Ok-Some.command c.in-Ok-Some.field-0-is c.in-Ok-Some.ensures.every (Tcp c.in-Tcp.listen c.in-Tcp.connections) c.in-Tcp.is refl text asks)

pub returns-in-Tcp-clause-text_complete : goal.returns-in-Tcp-clause-text_complete
returns-in-Tcp-clause-text_complete g c = λ text asks. absurd (asks_no_text c.args.words.now c.in-Ok-Some.field-0 c.in-Ok-Some.command c.in-Ok-Some.field-0-is c.in-Ok-Some.ensures.every (Tcp c.in-Tcp.listen c.in-Tcp.connections) c.in-Tcp.is refl text asks)

pub returns-in-Tcp-clause-text_unread : goal.returns-in-Tcp-clause-text_unread
returns-in-Tcp-clause-text_unread g c = λ text asks. absurd (asks_no_text c.args.words.now c.in-Ok-Some.field-0 c.in-Ok-Some.command c.in-Ok-Some.field-0-is c.in-Ok-Some.ensures.every (Tcp c.in-Tcp.listen c.in-Tcp.connections) c.in-Tcp.is refl text asks)

pub returns-in-Forward-clause-text_ends : goal.returns-in-Forward-clause-text_ends
returns-in-Forward-clause-text_ends g c = λ text asks. absurd (asks_no_text c.args.words.now c.in-Ok-Some.field-0 c.in-Ok-Some.command c.in-Ok-Some.field-0-is c.in-Ok-Some.ensures.every (Forward c.in-Forward.settings) c.in-Forward.is refl text asks)

pub returns-in-Forward-clause-text_complete : goal.returns-in-Forward-clause-text_complete
returns-in-Forward-clause-text_complete g c = λ text asks. absurd (asks_no_text c.args.words.now c.in-Ok-Some.field-0 c.in-Ok-Some.command c.in-Ok-Some.field-0-is c.in-Ok-Some.ensures.every (Forward c.in-Forward.settings) c.in-Forward.is refl text asks)

pub returns-in-Help-clause-good : goal.returns-in-Help-clause-good
returns-in-Help-clause-good g c = λ answering workers asks. absurd (tells_no_replay c.args.words.now c.in-Ok-Some.field-0 c.in-Ok-Some.command c.in-Ok-Some.field-0-is c.in-Ok-Some.ensures.every (Help c.in-Help.topic) c.in-Help.is (help_of c.in-Help.topic) refl answering workers asks)

pub returns-in-Help-clause-replayed : goal.returns-in-Help-clause-replayed
returns-in-Help-clause-replayed g c = λ answering workers asks. absurd (tells_no_replay c.args.words.now c.in-Ok-Some.field-0 c.in-Ok-Some.command c.in-Ok-Some.field-0-is c.in-Ok-Some.ensures.every (Help c.in-Help.topic) c.in-Help.is (help_of c.in-Help.topic) refl answering workers asks)

pub returns-in-Help-clause-end : goal.returns-in-Help-clause-end
returns-in-Help-clause-end g c = λ answering workers asks. absurd (tells_no_replay c.args.words.now c.in-Ok-Some.field-0 c.in-Ok-Some.command c.in-Ok-Some.field-0-is c.in-Ok-Some.ensures.every (Help c.in-Help.topic) c.in-Help.is (help_of c.in-Help.topic) refl answering workers asks)

pub returns-in-Help-clause-cut : goal.returns-in-Help-clause-cut
returns-in-Help-clause-cut g c = λ answering workers asks. absurd (tells_no_replay c.args.words.now c.in-Ok-Some.field-0 c.in-Ok-Some.command c.in-Ok-Some.field-0-is c.in-Ok-Some.ensures.every (Help c.in-Help.topic) c.in-Help.is (help_of c.in-Help.topic) refl answering workers asks)

pub returns-in-Help-clause-read : goal.returns-in-Help-clause-read
returns-in-Help-clause-read g c = λ answering workers asks. absurd (tells_no_replay c.args.words.now c.in-Ok-Some.field-0 c.in-Ok-Some.command c.in-Ok-Some.field-0-is c.in-Ok-Some.ensures.every (Help c.in-Help.topic) c.in-Help.is (help_of c.in-Help.topic) refl answering workers asks)

pub returns-in-Help-clause-taken : goal.returns-in-Help-clause-taken
returns-in-Help-clause-taken g c = λ answering workers asks. absurd (tells_no_replay c.args.words.now c.in-Ok-Some.field-0 c.in-Ok-Some.command c.in-Ok-Some.field-0-is c.in-Ok-Some.ensures.every (Help c.in-Help.topic) c.in-Help.is (help_of c.in-Help.topic) refl answering workers asks)

pub returns-in-Help-clause-complete : goal.returns-in-Help-clause-complete
returns-in-Help-clause-complete g c = λ answering workers asks. absurd (tells_no_replay c.args.words.now c.in-Ok-Some.field-0 c.in-Ok-Some.command c.in-Ok-Some.field-0-is c.in-Ok-Some.ensures.every (Help c.in-Help.topic) c.in-Help.is (help_of c.in-Help.topic) refl answering workers asks)

pub returns-in-Help-clause-summed : goal.returns-in-Help-clause-summed
returns-in-Help-clause-summed g c = λ seed names queries means. absurd (tells_alone c.args.words.now c.in-Ok-Some.field-0 c.in-Ok-Some.command c.in-Ok-Some.field-0-is c.in-Ok-Some.ensures.every (Help c.in-Help.topic) c.in-Help.is (help_of c.in-Help.topic) refl (Selfrun seed names queries) refl means)

pub returns-in-Help-clause-summed_in_part : goal.returns-in-Help-clause-summed_in_part
returns-in-Help-clause-summed_in_part g c = λ seed names queries means. absurd (tells_alone c.args.words.now c.in-Ok-Some.field-0 c.in-Ok-Some.command c.in-Ok-Some.field-0-is c.in-Ok-Some.ensures.every (Help c.in-Help.topic) c.in-Help.is (help_of c.in-Help.topic) refl (Selfrun seed names queries) refl means)

pub returns-in-Help-clause-served : goal.returns-in-Help-clause-served
returns-in-Help-clause-served g c = λ l u w d means. absurd (tells_alone c.args.words.now c.in-Ok-Some.field-0 c.in-Ok-Some.command c.in-Ok-Some.field-0-is c.in-Ok-Some.ensures.every (Help c.in-Help.topic) c.in-Help.is (help_of c.in-Help.topic) refl (Serve l u w d) refl means)

pub returns-in-Help-clause-serve_ends : goal.returns-in-Help-clause-serve_ends
returns-in-Help-clause-serve_ends g c = λ l u w d means. absurd (tells_alone c.args.words.now c.in-Ok-Some.field-0 c.in-Ok-Some.command c.in-Ok-Some.field-0-is c.in-Ok-Some.ensures.every (Help c.in-Help.topic) c.in-Help.is (help_of c.in-Help.topic) refl (Serve l u w d) refl means)

pub returns-in-Help-clause-serve_complete : goal.returns-in-Help-clause-serve_complete
returns-in-Help-clause-serve_complete g c = λ l u w d means. absurd (tells_alone c.args.words.now c.in-Ok-Some.field-0 c.in-Ok-Some.command c.in-Ok-Some.field-0-is c.in-Ok-Some.ensures.every (Help c.in-Help.topic) c.in-Help.is (help_of c.in-Help.topic) refl (Serve l u w d) refl means)

pub returns-in-Help-clause-aside : goal.returns-in-Help-clause-aside
returns-in-Help-clause-aside g c = λ l u w d means. absurd (tells_alone c.args.words.now c.in-Ok-Some.field-0 c.in-Ok-Some.command c.in-Ok-Some.field-0-is c.in-Ok-Some.ensures.every (Help c.in-Help.topic) c.in-Help.is (help_of c.in-Help.topic) refl (Serve l u w d) refl means)

pub returns-in-Help-clause-connected : goal.returns-in-Help-clause-connected
returns-in-Help-clause-connected g c = λ l n means. absurd (tells_alone c.args.words.now c.in-Ok-Some.field-0 c.in-Ok-Some.command c.in-Ok-Some.field-0-is c.in-Ok-Some.ensures.every (Help c.in-Help.topic) c.in-Help.is (help_of c.in-Help.topic) refl (Tcp l n) refl means)

pub returns-in-Help-clause-listens : goal.returns-in-Help-clause-listens
returns-in-Help-clause-listens g c = λ l n means. absurd (tells_alone c.args.words.now c.in-Ok-Some.field-0 c.in-Ok-Some.command c.in-Ok-Some.field-0-is c.in-Ok-Some.ensures.every (Help c.in-Help.topic) c.in-Help.is (help_of c.in-Help.topic) refl (Tcp l n) refl means)

pub returns-in-Help-clause-tcp_ends : goal.returns-in-Help-clause-tcp_ends
returns-in-Help-clause-tcp_ends g c = λ l n means. absurd (tells_alone c.args.words.now c.in-Ok-Some.field-0 c.in-Ok-Some.command c.in-Ok-Some.field-0-is c.in-Ok-Some.ensures.every (Help c.in-Help.topic) c.in-Help.is (help_of c.in-Help.topic) refl (Tcp l n) refl means)

pub returns-in-Help-clause-tcp_unwritten : goal.returns-in-Help-clause-tcp_unwritten
returns-in-Help-clause-tcp_unwritten g c = λ l n means. absurd (tells_alone c.args.words.now c.in-Ok-Some.field-0 c.in-Ok-Some.command c.in-Ok-Some.field-0-is c.in-Ok-Some.ensures.every (Help c.in-Help.topic) c.in-Help.is (help_of c.in-Help.topic) refl (Tcp l n) refl means)

pub returns-in-Help-clause-tcp_complete : goal.returns-in-Help-clause-tcp_complete
returns-in-Help-clause-tcp_complete g c = λ l n means. absurd (tells_alone c.args.words.now c.in-Ok-Some.field-0 c.in-Ok-Some.command c.in-Ok-Some.field-0-is c.in-Ok-Some.ensures.every (Help c.in-Help.topic) c.in-Help.is (help_of c.in-Help.topic) refl (Tcp l n) refl means)

pub returns-in-Help-clause-forward_ends : goal.returns-in-Help-clause-forward_ends
returns-in-Help-clause-forward_ends g c = λ settings means. absurd (tells_alone c.args.words.now c.in-Ok-Some.field-0 c.in-Ok-Some.command c.in-Ok-Some.field-0-is c.in-Ok-Some.ensures.every (Help c.in-Help.topic) c.in-Help.is (help_of c.in-Help.topic) refl (Forward settings) refl means)

pub returns-in-Help-clause-forward_complete : goal.returns-in-Help-clause-forward_complete
returns-in-Help-clause-forward_complete g c = λ settings means. absurd (tells_alone c.args.words.now c.in-Ok-Some.field-0 c.in-Ok-Some.command c.in-Ok-Some.field-0-is c.in-Ok-Some.ensures.every (Help c.in-Help.topic) c.in-Help.is (help_of c.in-Help.topic) refl (Forward settings) refl means)

pub returns-in-Help-clause-forward_aside : goal.returns-in-Help-clause-forward_aside
returns-in-Help-clause-forward_aside g c = λ settings means. absurd (tells_alone c.args.words.now c.in-Ok-Some.field-0 c.in-Ok-Some.command c.in-Ok-Some.field-0-is c.in-Ok-Some.ensures.every (Help c.in-Help.topic) c.in-Help.is (help_of c.in-Help.topic) refl (Forward settings) refl means)

pub returns-in-Version-clause-good : goal.returns-in-Version-clause-good
returns-in-Version-clause-good g c = λ answering workers asks. absurd (tells_no_replay c.args.words.now c.in-Ok-Some.field-0 c.in-Ok-Some.command c.in-Ok-Some.field-0-is c.in-Ok-Some.ensures.every Version c.in-Version.is version_line refl answering workers asks)

pub returns-in-Version-clause-replayed : goal.returns-in-Version-clause-replayed
returns-in-Version-clause-replayed g c = λ answering workers asks. absurd (tells_no_replay c.args.words.now c.in-Ok-Some.field-0 c.in-Ok-Some.command c.in-Ok-Some.field-0-is c.in-Ok-Some.ensures.every Version c.in-Version.is version_line refl answering workers asks)

pub returns-in-Version-clause-end : goal.returns-in-Version-clause-end
returns-in-Version-clause-end g c = λ answering workers asks. absurd (tells_no_replay c.args.words.now c.in-Ok-Some.field-0 c.in-Ok-Some.command c.in-Ok-Some.field-0-is c.in-Ok-Some.ensures.every Version c.in-Version.is version_line refl answering workers asks)

pub returns-in-Version-clause-cut : goal.returns-in-Version-clause-cut
returns-in-Version-clause-cut g c = λ answering workers asks. absurd (tells_no_replay c.args.words.now c.in-Ok-Some.field-0 c.in-Ok-Some.command c.in-Ok-Some.field-0-is c.in-Ok-Some.ensures.every Version c.in-Version.is version_line refl answering workers asks)

pub returns-in-Version-clause-read : goal.returns-in-Version-clause-read
returns-in-Version-clause-read g c = λ answering workers asks. absurd (tells_no_replay c.args.words.now c.in-Ok-Some.field-0 c.in-Ok-Some.command c.in-Ok-Some.field-0-is c.in-Ok-Some.ensures.every Version c.in-Version.is version_line refl answering workers asks)

pub returns-in-Version-clause-taken : goal.returns-in-Version-clause-taken
returns-in-Version-clause-taken g c = λ answering workers asks. absurd (tells_no_replay c.args.words.now c.in-Ok-Some.field-0 c.in-Ok-Some.command c.in-Ok-Some.field-0-is c.in-Ok-Some.ensures.every Version c.in-Version.is version_line refl answering workers asks)

pub returns-in-Version-clause-complete : goal.returns-in-Version-clause-complete
returns-in-Version-clause-complete g c = λ answering workers asks. absurd (tells_no_replay c.args.words.now c.in-Ok-Some.field-0 c.in-Ok-Some.command c.in-Ok-Some.field-0-is c.in-Ok-Some.ensures.every Version c.in-Version.is version_line refl answering workers asks)

pub returns-in-Version-clause-summed : goal.returns-in-Version-clause-summed
returns-in-Version-clause-summed g c = λ seed names queries means. absurd (tells_alone c.args.words.now c.in-Ok-Some.field-0 c.in-Ok-Some.command c.in-Ok-Some.field-0-is c.in-Ok-Some.ensures.every Version c.in-Version.is version_line refl (Selfrun seed names queries) refl means)

pub returns-in-Version-clause-summed_in_part : goal.returns-in-Version-clause-summed_in_part
returns-in-Version-clause-summed_in_part g c = λ seed names queries means. absurd (tells_alone c.args.words.now c.in-Ok-Some.field-0 c.in-Ok-Some.command c.in-Ok-Some.field-0-is c.in-Ok-Some.ensures.every Version c.in-Version.is version_line refl (Selfrun seed names queries) refl means)

pub returns-in-Version-clause-served : goal.returns-in-Version-clause-served
returns-in-Version-clause-served g c = λ l u w d means. absurd (tells_alone c.args.words.now c.in-Ok-Some.field-0 c.in-Ok-Some.command c.in-Ok-Some.field-0-is c.in-Ok-Some.ensures.every Version c.in-Version.is version_line refl (Serve l u w d) refl means)

pub returns-in-Version-clause-serve_ends : goal.returns-in-Version-clause-serve_ends
returns-in-Version-clause-serve_ends g c = λ l u w d means. absurd (tells_alone c.args.words.now c.in-Ok-Some.field-0 c.in-Ok-Some.command c.in-Ok-Some.field-0-is c.in-Ok-Some.ensures.every Version c.in-Version.is version_line refl (Serve l u w d) refl means)

pub returns-in-Version-clause-serve_complete : goal.returns-in-Version-clause-serve_complete
returns-in-Version-clause-serve_complete g c = λ l u w d means. absurd (tells_alone c.args.words.now c.in-Ok-Some.field-0 c.in-Ok-Some.command c.in-Ok-Some.field-0-is c.in-Ok-Some.ensures.every Version c.in-Version.is version_line refl (Serve l u w d) refl means)

pub returns-in-Version-clause-aside : goal.returns-in-Version-clause-aside
returns-in-Version-clause-aside g c = λ l u w d means. absurd (tells_alone c.args.words.now c.in-Ok-Some.field-0 c.in-Ok-Some.command c.in-Ok-Some.field-0-is c.in-Ok-Some.ensures.every Version c.in-Version.is version_line refl (Serve l u w d) refl means)

pub returns-in-Version-clause-connected : goal.returns-in-Version-clause-connected
returns-in-Version-clause-connected g c = λ l n means. absurd (tells_alone c.args.words.now c.in-Ok-Some.field-0 c.in-Ok-Some.command c.in-Ok-Some.field-0-is c.in-Ok-Some.ensures.every Version c.in-Version.is version_line refl (Tcp l n) refl means)

pub returns-in-Version-clause-listens : goal.returns-in-Version-clause-listens
returns-in-Version-clause-listens g c = λ l n means. absurd (tells_alone c.args.words.now c.in-Ok-Some.field-0 c.in-Ok-Some.command c.in-Ok-Some.field-0-is c.in-Ok-Some.ensures.every Version c.in-Version.is version_line refl (Tcp l n) refl means)

pub returns-in-Version-clause-tcp_ends : goal.returns-in-Version-clause-tcp_ends
returns-in-Version-clause-tcp_ends g c = λ l n means. absurd (tells_alone c.args.words.now c.in-Ok-Some.field-0 c.in-Ok-Some.command c.in-Ok-Some.field-0-is c.in-Ok-Some.ensures.every Version c.in-Version.is version_line refl (Tcp l n) refl means)

pub returns-in-Version-clause-tcp_unwritten : goal.returns-in-Version-clause-tcp_unwritten
returns-in-Version-clause-tcp_unwritten g c = λ l n means. absurd (tells_alone c.args.words.now c.in-Ok-Some.field-0 c.in-Ok-Some.command c.in-Ok-Some.field-0-is c.in-Ok-Some.ensures.every Version c.in-Version.is version_line refl (Tcp l n) refl means)

pub returns-in-Version-clause-tcp_complete : goal.returns-in-Version-clause-tcp_complete
returns-in-Version-clause-tcp_complete g c = λ l n means. absurd (tells_alone c.args.words.now c.in-Ok-Some.field-0 c.in-Ok-Some.command c.in-Ok-Some.field-0-is c.in-Ok-Some.ensures.every Version c.in-Version.is version_line refl (Tcp l n) refl means)

pub returns-in-Version-clause-forward_ends : goal.returns-in-Version-clause-forward_ends
returns-in-Version-clause-forward_ends g c = λ settings means. absurd (tells_alone c.args.words.now c.in-Ok-Some.field-0 c.in-Ok-Some.command c.in-Ok-Some.field-0-is c.in-Ok-Some.ensures.every Version c.in-Version.is version_line refl (Forward settings) refl means)

pub returns-in-Version-clause-forward_complete : goal.returns-in-Version-clause-forward_complete
returns-in-Version-clause-forward_complete g c = λ settings means. absurd (tells_alone c.args.words.now c.in-Ok-Some.field-0 c.in-Ok-Some.command c.in-Ok-Some.field-0-is c.in-Ok-Some.ensures.every Version c.in-Version.is version_line refl (Forward settings) refl means)

pub returns-in-Version-clause-forward_aside : goal.returns-in-Version-clause-forward_aside
returns-in-Version-clause-forward_aside g c = λ settings means. absurd (tells_alone c.args.words.now c.in-Ok-Some.field-0 c.in-Ok-Some.command c.in-Ok-Some.field-0-is c.in-Ok-Some.ensures.every Version c.in-Version.is version_line refl (Forward settings) refl means)
