-- One more lane whose two ends are one.
use Rattle.std.proofs.Common.{◌≡◌, ◌<◌, ◌≤◌, ◌+◌, ℕ, suc, List, [], ◌∷◌, ◌++◌, length, map, get_or, drop, drop-cons, add-one, refl, sym, ap, ap₂, ◌∙◌, arith, append_assoc, append-nil}
use Rattle.std.proofs.Math.ListN.{drop_of_length-le}
use Rattle.std.proofs.lemmas.List.{map-append, length_push}
use Rattle.std.proofs.lemmas.List.Elements.{All-push}
use Rattle.push_lane.specs.Rule.{StartsWith}
use Rattle.push_lane.specs.Views.{BothView, LaneView, OutView, TableId}
use Rattle.push_rule.specs.Stands.{PrivateView}
use Rattle.aggregate.specs.Takens.{ArePassesOf, takens}
use Rattle.hash_rows.specs.declared.shape.Push.{Push}
use Rattle.thread_run.specs.declared.parts.WorkerPart.{WorkerPart}
use Rattle.thread_ends.specs.Ends.{AreOne, HaveOrder, IsOne, both_fulls, both_sents, both_takens}

abbrev pub lane_id : LaneView → TableId
lane_id l = l.id

abbrev pub both_id : BothView → TableId
both_id b = b.id

abbrev pub out_id : OutView → TableId
out_id o = o.id

-- a list that is mapped to nothing has nothing
nothing : {X Y : Type 0} (f : X → Y) (xs : List X) → map f xs ≡ [] → xs ≡ []
nothing f [] e = refl
nothing f (x ∷ xs) e = absurd (let n = ap length e in omega (arith, n))

-- an item that goes from the front of one list to the end of another
moved : {P Q C : Type 0} (f : P → C) (h : Q → C) (ps : List P) (p : P) (qs rest : List Q) (q : Q) → qs ≡ q ∷ rest → f p ≡ h q → map f (ps ++ p ∷ []) ++ map h rest ≡ map f ps ++ map h qs
moved f h ps p qs rest q e s = rw (e, map-append f ps (p ∷ []), s) (append_assoc (map f ps) (h q ∷ []) (map h rest))

-- all items went
all_moved : {P Q C : Type 0} (f : P → C) (h : Q → C) (ps : List P) (qs all : List Q) → map f ps ++ map h qs ≡ map h all → qs ≡ [] → map f ps ≡ map h all
all_moved f h ps qs all e none = sym (append-nil (map f ps)) ∙ ap (λ l. map f ps ++ map h l) (sym none) ∙ e

-- the first of the items that are left belongs to the next lane
module _ {X : Type 0} (id : X → TableId) (lanes : List LaneView) (i : ℕ) (d : LaneView) (within : i < length lanes) (left : List X) (ids : map id left ≡ map lane_id (drop i lanes)) where
  split : map id left ≡ lane_id (get_or lanes i d) ∷ map lane_id (drop (suc i) lanes)
  split = ids ∙ ap (map lane_id) (drop-cons lanes i d within)

  pub some_left : left ≡ [] → ⊥
  some_left none = let n = ap length (sym (ap (map id) none) ∙ split) in omega (arith, n)

  pub first_id : (x : X) (rest : List X) → left ≡ x ∷ rest → id x ≡ lane_id (get_or lanes i d)
  first_id x rest e = ap (λ l. get_or l 0 (id x)) (sym (ap (map id) e) ∙ split)

  pub rest_ids : (x : X) (rest : List X) → left ≡ x ∷ rest → map id rest ≡ map lane_id (drop (i + 1) lanes)
  rest_ids x rest e = ap (drop 1) (sym (ap (map id) e) ∙ split) ∙ ap (λ n. map lane_id (drop n lanes)) (sym (add-one i))

module _ {K H : Type 0} where
  abbrev pub worker_id : WorkerPart K H → TableId
  worker_id p = p.pass.id

  abbrev pub sketch_of : WorkerPart K H → PrivateView H
  sketch_of p = p.sketch

  abbrev pub sent_of : WorkerPart K H → List Push
  sent_of p = p.pass.sent

  abbrev pub fulls_of : WorkerPart K H → ℕ
  fulls_of p = p.pass.fulls

  -- the ends of the first lanes are one; what is left belongs to the others
  pub record AreJoined (lanes : List LaneView) (workers : List (WorkerPart K H)) (outs : List OutView) (i : ℕ) (left : List (WorkerPart K H)) (outs_left : List OutView)
      (passes : List BothView) (sketches : List (PrivateView H)) : Type 0 where
    pub worker_ids : map worker_id left ≡ map lane_id (drop i lanes)
    pub out_ids : map out_id outs_left ≡ map lane_id (drop i lanes)
    pub ids : map both_id passes ++ map lane_id (drop i lanes) ≡ map lane_id lanes
    pub sketches_are : sketches ++ map sketch_of left ≡ map sketch_of workers
    pub sents : both_sents passes ++ map sent_of left ≡ map sent_of workers
    pub fulls : both_fulls passes ++ map fulls_of left ≡ map fulls_of workers
    pub taken : both_takens passes ++ takens outs_left ≡ takens outs
    pub order : HaveOrder passes
    pub passes_len : length passes ≡ i
    pub sketches_len : length sketches ≡ i

  same_ids : (lanes : List LaneView) (workers : List (WorkerPart K H)) → length workers ≡ length lanes
      → ((i : ℕ) (l : LaneView) (p : WorkerPart K H) → i < length lanes → worker_id (get_or workers i p) ≡ lane_id (get_or lanes i l)) → map worker_id workers ≡ map lane_id lanes
  same_ids [] [] e h = refl
  same_ids [] (w ∷ ws) e h = absurd (omega (arith, e))
  same_ids (l ∷ ls) [] e h = absurd (omega (arith, e))
  same_ids (l ∷ ls) (w ∷ ws) e h = ap₂ (λ a b. a ∷ b) (h 0 l w (omega arith)) (same_ids ls ws (omega (arith, e)) (λ i d p lt. h (suc i) d p (omega (arith, lt))))

  pub joined_none : (lanes : List LaneView) (workers : List (WorkerPart K H)) (outs : List OutView) → length workers ≡ length lanes
      → ((i : ℕ) (l : LaneView) (p : WorkerPart K H) → i < length lanes → worker_id (get_or workers i p) ≡ lane_id (get_or lanes i l)) → ArePassesOf lanes outs
      → AreJoined lanes workers outs 0 workers outs [] []
  joined_none lanes workers outs len ids ends = record {
    worker_ids = same_ids lanes workers len ids;
    out_ids = ends;
    ids = refl;
    sketches_are = refl;
    sents = refl;
    fulls = refl;
    taken = refl;
    order = λ k d lt. absurd (omega (arith, lt));
    passes_len = refl;
    sketches_len = refl;
  }

  module _ (lanes : List LaneView) (workers : List (WorkerPart K H)) (outs : List OutView) (i : ℕ) (left : List (WorkerPart K H)) (outs_left : List OutView)
      (passes : List BothView) (sketches : List (PrivateView H)) (h : AreJoined lanes workers outs i left outs_left passes sketches) where
    pub joined_next : (d : LaneView) → i < length lanes → (w : WorkerPart K H) (rest : List (WorkerPart K H)) → left ≡ w ∷ rest → (o : OutView) (outs_rest : List OutView) → outs_left ≡ o ∷ outs_rest
        → (one : BothView) → IsOne (get_or lanes i d) w.pass o one → AreJoined lanes workers outs (i + 1) rest outs_rest (passes ++ one ∷ []) (sketches ++ w.sketch ∷ [])
    joined_next d within w rest e o outs_rest f one is = record {
      worker_ids = rest_ids worker_id lanes i d within left h.worker_ids w rest e;
      out_ids = rest_ids out_id lanes i d within outs_left h.out_ids o outs_rest f;
      ids = ap (λ n. map both_id (passes ++ one ∷ []) ++ map lane_id (drop n lanes)) (add-one i)
          ∙ moved both_id lane_id passes one (drop i lanes) (drop (suc i) lanes) (get_or lanes i d) (drop-cons lanes i d within) is.id ∙ h.ids;
      sketches_are = append_assoc sketches (w.sketch ∷ []) (map sketch_of rest) ∙ ap (λ l. sketches ++ map sketch_of l) (sym e) ∙ h.sketches_are;
      sents = moved (λ (b : BothView). b.sent) sent_of passes one left rest w e is.sent_is ∙ h.sents;
      fulls = moved (λ (b : BothView). b.fulls) fulls_of passes one left rest w e is.fulls ∙ h.fulls;
      taken = moved (λ (b : BothView). b.taken) (λ (x : OutView). x.taken) passes one outs_left outs_rest o f is.taken_is ∙ h.taken;
      order = All-push (λ (b : BothView). StartsWith b.sent b.taken) passes one h.order is.order;
      passes_len = omega (arith, length_push passes one, h.passes_len);
      sketches_len = omega (arith, length_push sketches w.sketch, h.sketches_len);
    }

    module _ (all : length lanes ≤ i) where
      no_lanes : drop i lanes ≡ []
      no_lanes = drop_of_length-le lanes all

      no_workers : left ≡ []
      no_workers = nothing worker_id left (h.worker_ids ∙ ap (map lane_id) no_lanes)

      no_outs : outs_left ≡ []
      no_outs = nothing out_id outs_left (h.out_ids ∙ ap (map lane_id) no_lanes)

      pub joined_sketches : sketches ≡ map sketch_of workers
      joined_sketches = sym (append-nil sketches) ∙ ap (λ l. sketches ++ map sketch_of l) (sym no_workers) ∙ h.sketches_are

      pub joined_all : AreOne lanes workers outs passes
      joined_all = record {
        ids = all_moved both_id lane_id passes (drop i lanes) lanes h.ids no_lanes;
        sents = all_moved (λ (b : BothView). b.sent) sent_of passes left workers h.sents no_workers;
        fulls = all_moved (λ (b : BothView). b.fulls) fulls_of passes left workers h.fulls no_workers;
        taken = all_moved (λ (b : BothView). b.taken) (λ (x : OutView). x.taken) passes outs_left outs h.taken no_outs;
        order = h.order;
      }
