-- What is written of a verdict is sound.
use Rattle.std.proofs.Common.{◌∙◌, ℕ, List, Option, Some, None, sym, subst}
use Rattle.std.specs.Prelude.{IfSome}
use Rattle.dname.specs.Name.{Label}
use Rattle.denial_records.specs.Proof.{Proof}
use Rattle.denial_records.specs.declared.verdict.Verdict.{Verdict}
use Rattle.cache_meaning.specs.Verdict.{IsVerdictOf}
use Rattle.soundness.specs.Sound.{IsSound}
use Rattle.reply_core.proofs.ShownLemmas.{shown_is}
use Rattle.resolver.specs.SoundVerdict.{IsSoundVerdict}

-- a verdict shows one proof
pub sound_of : (name : List Label) (qtype now : ℕ) (found : Option Proof) (verdict : Verdict) → IsVerdictOf now found verdict → IsSoundVerdict name qtype verdict → IfSome found (IsSound name qtype)
sound_of name qtype now None verdict told sound = tt
sound_of name qtype now (Some proof) verdict told sound =
    subst (IsSound name qtype) (sym (shown_is verdict sound.proof sound.shows) ∙ shown_is verdict proof told.shows) sound.sound
