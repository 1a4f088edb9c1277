-- What became of connections that were served after frames were done; and how a run of `tcp` ends.
use Rattle.std.proofs.Common.{◌≡◌, ◌⊎◌, inl, inr, ℕ, List, [], length, Option, Result, Ok, Err, refl, sym, subst}
use Rattle.std.specs.Prelude.{IfErr, OnOk}
use Rattle.denial_records.specs.declared.batch.Batch.{Batch}
use Rattle.outside_core.specs.Fault.{Rose}
use Rattle.replay_meaning.specs.Frame.{Input}
use Rattle.gateway.specs.Connection.{Connection}
use Rattle.stream_server.specs.Served.{AreAllServed, AreServed, CameBack, EndsEarly}
use Rattle.stream_server.specs.declared.connect_fault.ConnectFault.{ConnectFault}
use Rattle.stream_server.specs.declared.connect_fault.ConnectFault.TheVariants as fault
use Rattle.stream_server.proofs.BackLemmas.{came_none, none_served}
use Rattle.running.specs.Connections.{ArePlacedBy, HasServedAfter, HasServedPartAfter, IsOfTcp}
use Rattle.running.specs.declared.status.Status.{Status}
use Rattle.running.specs.declared.status.Status.TheVariants.{Usage, WriteFault, HarborFault, ListenFault}

abbrev Ended : Type 0
Ended = Result (Unit {0}) ConnectFault

-- ---- a gateway that listens before it accepts

module _ (count : ℕ) (moment : Option ℕ) (before : ℕ) (seen : List Batch) (told told' : Option (List Connection)) (failures failures' faults faults' : ℕ) where
  -- it couldn't listen
  pub unlistened : told' ≡ told → Rose failures failures' → Rose faults faults' → EndsEarly count moment before seen told told' failures failures' faults faults' fault.Gateway
  unlistened same failed rose = (
    rose,
    inr (
      failed,
      subst (λ t. CameBack told t (λ all. AreServed (length all) moment before seen all)) (sym same)
          (came_none told (λ all. AreServed (length all) moment before seen all) (none_served moment before seen)),
    ),
  )

  -- it could, and told nothing new
  pub early_since : (ended : Ended) (told1 : Option (List Connection)) (failures1 faults1 : ℕ) → told1 ≡ told → failures1 ≡ failures → faults1 ≡ faults
      → IfErr ended (EndsEarly count moment before seen told1 told' failures1 failures' faults1 faults') → IfErr ended (EndsEarly count moment before seen told told' failures failures' faults faults')
  early_since ended told1 failures1 faults1 one two three early =
      subst (λ t. IfErr ended (EndsEarly count moment before seen t told' failures failures' faults faults')) one
      (subst (λ n. IfErr ended (EndsEarly count moment before seen told1 told' n failures' faults faults')) two
      (subst (λ n. IfErr ended (EndsEarly count moment before seen told1 told' failures1 failures' n faults')) three early))

-- ---- after the frames

module _ (inputs : List Input) (journal seen seen' : List Batch) (by : ArePlacedBy inputs journal) (first : seen ≡ journal) (last : seen' ≡ journal)
    (count : ℕ) (moment : Option ℕ) (told told' : Option (List Connection)) where
  pub served_after : (ended : Ended) → OnOk ended (CameBack told told' (AreAllServed count moment (length seen) seen')) → OnOk ended (HasServedAfter inputs count moment told told')
  served_after (Ok done) came = record {
    placed = journal;
    by = by;
    came =
        subst (λ l. CameBack told told' (AreAllServed count moment (length l) journal)) first
        (subst (λ l. CameBack told told' (AreAllServed count moment (length seen) l)) last came);
  }
  served_after (Err why) came = tt

  pub part_after : (failures failures' faults faults' : ℕ) (ended : Ended) → ended ≡ Err fault.Gateway
      → IfErr ended (EndsEarly count moment (length seen) seen' told told' failures failures' faults faults') → HasServedPartAfter inputs count moment told told' failures failures' faults faults'
  part_after failures failures' faults faults' ended is early = record {
    placed = journal;
    by = by;
    early =
        subst (λ l. EndsEarly count moment (length l) journal told told' failures failures' faults faults' fault.Gateway) first
        (subst (λ l. EndsEarly count moment (length seen) l told told' failures failures' faults faults' fault.Gateway) last
        (subst (λ e. IfErr e (EndsEarly count moment (length seen) seen' told told' failures failures' faults faults')) is early));
  }

-- ---- how a run ends

pub not_usage : (status : Status) → IsOfTcp status → status ≡ Usage → ⊥
not_usage status (inl (inl is)) other = cc
not_usage status (inl (inr is)) other = cc
not_usage status (inr (inl is)) other = cc
not_usage status (inr (inr (inl (inl is)))) other = cc
not_usage status (inr (inr (inl (inr is)))) other = cc
not_usage status (inr (inr (inr is))) other = cc

pub not_cut : (status : Status) → IsOfTcp status → status ≡ WriteFault → ⊥
not_cut status (inl (inl is)) other = cc
not_cut status (inl (inr is)) other = cc
not_cut status (inr (inl is)) other = cc
not_cut status (inr (inr (inl (inl is)))) other = cc
not_cut status (inr (inr (inl (inr is)))) other = cc
not_cut status (inr (inr (inr is))) other = cc

pub not_harbor : (status : Status) → IsOfTcp status → status ≡ HarborFault → ⊥
not_harbor status (inl (inl is)) other = cc
not_harbor status (inl (inr is)) other = cc
not_harbor status (inr (inl is)) other = cc
not_harbor status (inr (inr (inl (inl is)))) other = cc
not_harbor status (inr (inr (inl (inr is)))) other = cc
not_harbor status (inr (inr (inr is))) other = cc

pub not_listen : (status : Status) → IsOfTcp status → status ≡ ListenFault → ⊥
not_listen status (inl (inl is)) other = cc
not_listen status (inl (inr is)) other = cc
not_listen status (inr (inl is)) other = cc
not_listen status (inr (inr (inl (inl is)))) other = cc
not_listen status (inr (inr (inl (inr is)))) other = cc
not_listen status (inr (inr (inr is))) other = cc
