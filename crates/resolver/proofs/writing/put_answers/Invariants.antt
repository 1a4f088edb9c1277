use Rattle.std.proofs.Common.{◌≡◌, ℕ, [], take}
use Rattle.dnswire.specs.declared.question.Question.{Question}
use Rattle.reply_core.specs.Sections.{HasWrittenWithin}
use Rattle.resolver.specs.Lent.{led_by, end_by}
use Rattle.resolver.proofs.WritingLemmas.{HasAnswered}
use Rattle.resolver.proofs.writing.put_answers.Given as goal

-- the links so far are written, and the owner is the name to which they lead
abbrev pub invariant-loop-place : goal.invariant-loop-place
invariant-loop-place g l = record {
  at : l.owner ≡ led_by l.walk.name (take l.place l.walk.links.items);
  answered : (limit : ℕ) (question : Question) (rcode ttl : ℕ) → HasWrittenWithin limit question rcode ttl [] [] l.initial.sections
      → HasAnswered l.walk.name l.walk.links.items l.walk.last_name (end_by l.walk.last_name l.walk.end) limit question rcode ttl l.place l.sections;
}
