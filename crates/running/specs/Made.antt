-- What `selfrun` is given: the frames of a made zone's messages, and then those of its queries.
use Rattle.std.specs.Prelude.{ℕ, List, ◌++◌, map}
use Rattle.std.specs.List.{AllZip, range_with_len}
use Rattle.denial_records.specs.declared.batch.Batch.{Batch}
use Rattle.zone_maker.specs.Messages.{messages_of}
use Rattle.zone_maker.specs.Questions.{query_at}
use Rattle.replay_meaning.specs.declared.frame.FrameKind.{FrameKind}
use Rattle.replay_meaning.specs.declared.frame.FrameKind.TheVariants.{Query, Upstream}
use Rattle.replay_meaning.specs.Frame.{Input}
use Rattle.replay_meaning.specs.OutFrame.{Output}
use Rattle.replay_meaning.specs.Fits.{Fits}
use Rattle.replay_meaning.specs.Sound.{IsSoundReply}
use Rattle.reply_core.specs.Answered.{reply_in}

-- a frame for the one worker
abbrev pub made_input : FrameKind → ℕ → List ℕ → Input
made_input kind now message = record { kind = kind; worker = 0; now = now; message = message }

-- so many queries to the zone
unfoldable pub queries_of : ℕ → ℕ → ℕ → List (List ℕ)
queries_of seed names queries = map (query_at seed names) (range_with_len 0 queries)

-- the messages at one moment, and the queries 100 seconds later
unfoldable pub made_inputs : ℕ → ℕ → ℕ → List Input
made_inputs seed names queries =
    map (made_input Upstream 1000000000) (messages_of seed names)
    ++ map (made_input Query 1000000100) (queries_of seed names queries)

-- what became of them, where each reply is sound
pub record AreMadeOutputs (seed names queries : ℕ) (outputs : List Output) : Type 0 where
  pub placed : List Batch
  pub fits : Fits reply_in (made_inputs seed names queries) 1 placed outputs
  pub sound : AllZip (IsSoundReply placed) (made_inputs seed names queries) outputs
