-- A store keeps records in the order of keys, which no reply shows.
use Rattle.std.proofs.Common.{◌≡◌, ℕ, List, refl}
use Rattle.dnswire.specs.declared.question.Question.{Question}
use Rattle.denial_records.specs.declared.batch.Batch.{Batch}
use Rattle.cache_meaning.specs.Held.{Held, held_of}
use Rattle.held_laws.specs.KeyOrder.{kept_of}
use Rattle.resolver.specs.Answering.{reply_by}
use Rattle.resolver.specs.OctetLaws.{StoresReplyAsHeld}
use Rattle.resolver.specs.declared.answering.Answering.{Answering}
use Rattle.resolver.specs.declared.answering.Answering.TheVariants.{ByProof, ByWalk}
use Rattle.resolver.proofs.OutcomeLemmas as proofs
use Rattle.resolver.proofs.AlikeLemmas as walks

pub reply_as_held : (answering : Answering) (journal : List Batch) (held : Held) (question : Question) (now : ℕ) → held ≡ kept_of journal → reply_by answering held question now ≡ reply_by answering (held_of journal) question now
reply_as_held ByProof journal held question now kept = proofs.reply_as_held journal held question now kept
reply_as_held (ByWalk rule) journal held question now kept = walks.reply_as_held rule journal held question now kept

pub stores : StoresReplyAsHeld
stores answering journal question now = reply_as_held answering journal (kept_of journal) question now refl
