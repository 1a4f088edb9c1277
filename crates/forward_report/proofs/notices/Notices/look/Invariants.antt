use Rattle.forward_report.proofs.LookLemmas.{HasLookedAt}
use Rattle.forward_report.proofs.notices.Notices.look.Given as goal

abbrev pub invariant-loop-call : goal.invariant-loop-call
invariant-loop-call l = HasLookedAt l.now l.workers l.fn.self l.call-index l.notices l.self-inside.told l.self-inside.heard
