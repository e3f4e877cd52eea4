-- One worker more, one answer more, and one reader more.
use Rattle.live_state.specs.Fold.{layout_in}
use Rattle.std.proofs.Common.{◌≡◌, ◌<◌, ℕ, ℤ, ◌+◌, List, [], ◌∷◌, ◌++◌, length, map, get_or, All, refl, sym, ap, ap₂, ◌∙◌, subst, arith}
use Rattle.std.specs.Prelude.{pos, replicate}
use Rattle.std.proofs.lemmas.List.{get_or_append_left, get_or_push, length-replicate, length_push, map-append}
use Rattle.std.proofs.lemmas.List.Elements.{All-nil, All-push}
use Rattle.aggregate.specs.Takens.{ArePassesOf}
use Rattle.hash_rows.specs.declared.answer.Answer.{Answer}
use Rattle.hash_rows.specs.declared.options.Options.{Options}
use Rattle.hash_rows.specs.declared.shape.Packet.{Packet}
use Rattle.hash_rows.specs.Rules.{Rules}
use Rattle.listed.specs.Listed.{Listed}
use Rattle.live_state.specs.Copies.{HasRoomFor}
use Rattle.live_state.specs.declared.layout.Layout.{Layout}
use Rattle.live_view.specs.Views.{ReaderView, WriterView}
use Rattle.octo_engine.proofs.Beginning.{grown}
use Rattle.packet_key.specs.declared.key.FlowKey.{FlowKey}
use Rattle.push_history.specs.Journal.{keys_of}
use Rattle.push_history.specs.Share.{share_of_worker}
use Rattle.push_lane.specs.Views.{LaneView, OutView}
use Rattle.thread_run.specs.declared.parts.ReaderPart.{ReaderPart}
use Rattle.thread_run.specs.declared.parts.WorkerPart.{WorkerPart}
use Rattle.thread_run.specs.Readers.{HaveRoom}
use Rattle.thread_run.specs.Workers.{AreReady, IsReady}
use Rattle.thread_setup.specs.Answers.{AreLists, AreNew}
use Rattle.thread_setup.specs.declared.hands.Hand.{Hand}
use Rattle.thread_setup.specs.declared.hands.Hands.{Hands}
use Rattle.thread_setup.specs.Hands.{AreHands, IsHand}
use Rattle.thread_setup.specs.Setups.{AreReaders, IsFreshView, IsReader}

pub all_more : {A : Type 0} (P : A → Type 0) (xs new : List A) (x : A) → new ≡ xs ++ x ∷ [] → All P xs → P x → All P new
all_more {A} P xs new x is all here = subst (All P) (sym is) (All-push P xs x all here)

-- what holds of all holds of those before the last, and of the last
pub all_before : {A : Type 0} (P : A → Type 0) (all xs : List A) (x : A) → all ≡ xs ++ x ∷ [] → All P all → All P xs × P x
all_before {A} P all xs x is h =
    let both : All P (xs ++ x ∷ []) = subst (All P) is h in (
      (λ k d lt. subst P (get_or_append_left xs (x ∷ []) d k lt) (both k d (omega (arith, length_push xs x, lt)))),
      subst P (get_or_push xs x x (length xs) refl) (both (length xs) x (omega (arith, length_push xs x))),
    )

pub len_more : {A : Type 0} (xs new : List A) (x : A) (n : ℕ) → length xs ≡ n → new ≡ xs ++ x ∷ [] → length new ≡ n + 1
len_more xs new x n len is = ap length is ∙ length_push xs x ∙ ap (λ k. k + 1) len

ends_more : (lanes lanes' : List LaneView) (outs outs' : List OutView) (l : LaneView) (e : OutView) → lanes' ≡ lanes ++ l ∷ [] → outs' ≡ outs ++ e ∷ [] → ArePassesOf lanes outs
    → e.id ≡ l.id → ArePassesOf lanes' outs'
ends_more lanes lanes' outs outs' l e is_l is_e ends here =
    ap (map (λ (x : OutView). x.id)) is_e
    ∙ map-append (λ (x : OutView). x.id) outs (e ∷ [])
    ∙ ap₂ (λ xs i. xs ++ i ∷ []) ends here
    ∙ sym (map-append (λ (x : LaneView). x.id) lanes (l ∷ []))
    ∙ sym (ap (map (λ (x : LaneView). x.id)) is_l)

module _ {K H : Type 0} (stands : H → ℤ → ℤ → Type 0) (r : Rules) (o : Options) (packets : List Packet) where
  ready_more : (lanes lanes' : List LaneView) (parts parts' : List (WorkerPart K H)) (l : LaneView) (p : WorkerPart K H) → length parts ≡ length lanes → lanes' ≡ lanes ++ l ∷ []
      → parts' ≡ parts ++ p ∷ [] → AreReady stands r o packets lanes parts → IsReady stands r o packets l p → AreReady stands r o packets lanes' parts'
  ready_more lanes lanes' parts parts' l p len is_l is_p ready here =
      let early : (k : ℕ) (e : WorkerPart K H) → k < length lanes → get_or parts' k e ≡ get_or parts k e = λ k e below.
      ap (λ (ys : List (WorkerPart K H)). get_or ys k e) is_p ∙ get_or_append_left parts (p ∷ []) e k (omega (arith, below, len)) in
      let late : (e : WorkerPart K H) → get_or parts' (length lanes) e ≡ p = λ e. ap (λ (ys : List (WorkerPart K H)). get_or ys (length lanes) e) is_p ∙ get_or_push parts p e (length lanes) len in
      let pair : ℕ → LaneView → Type 0 = λ k x. (e : WorkerPart K H) → IsReady stands r o packets x (get_or parts' k e) in
      let each : (k : ℕ) (d : LaneView) → k < length lanes → pair k (get_or lanes k d) = λ k d below e.
      subst (λ (z : WorkerPart K H). IsReady stands r o packets (get_or lanes k d) z) (sym (early k e below)) (ready.each k d e below) in
      let last : pair (length lanes) l = λ e. subst (λ (z : WorkerPart K H). IsReady stands r o packets l z) (sym (late e)) here in
      let all = grown pair lanes lanes' (length lanes) l refl is_l each last in
      record { each = λ i a b lt. all i a (omega (arith, len_more lanes lanes' l (length lanes) refl is_l, lt)) b }

  pub hands_none : (h : Hands K H) → h.lanes.items ≡ [] → h.workers.items ≡ [] → h.outs.items ≡ [] → AreHands stands r o packets 0 h
  hands_none h lanes workers outs = record {
    lanes_len = ap length lanes;
    capacity = subst (All (λ (l : LaneView). l.capacity ≡ o.lane)) (sym lanes) (All-nil (λ (l : LaneView). l.capacity ≡ o.lane));
    workers_len = ap length workers;
    ready = record { each = λ i l p lt. absurd (let none = ap length lanes in omega (arith, none, lt)) };
    shares = λ w p lt. absurd (omega (arith, lt));
    thresholds = λ w p lt. absurd (omega (arith, lt));
    ends = ap (map (λ (x : OutView). x.id)) outs ∙ sym (ap (map (λ (x : LaneView). x.id)) lanes);
    untaken = subst (All (λ (e : OutView). e.taken ≡ [])) (sym outs) (All-nil (λ (e : OutView). e.taken ≡ []));
  }

  pub hands_more : (n : ℕ) (a b : Hands K H) (x : Hand K H) → AreHands stands r o packets n a → IsHand stands r o packets n x → b.lanes.items ≡ a.lanes.items ++ x.lane ∷ []
      → b.workers.items ≡ a.workers.items ++ x.worker ∷ [] → b.outs.items ≡ a.outs.items ++ x.out ∷ [] → AreHands stands r o packets (n + 1) b
  hands_more n a b x h here lanes workers outs = record {
    lanes_len = len_more a.lanes.items b.lanes.items x.lane n h.lanes_len lanes;
    capacity = all_more (λ (l : LaneView). l.capacity ≡ o.lane) a.lanes.items b.lanes.items x.lane lanes h.capacity here.capacity;
    workers_len = len_more a.workers.items b.workers.items x.worker n h.workers_len workers;
    ready = ready_more a.lanes.items b.lanes.items a.workers.items b.workers.items x.lane x.worker (h.workers_len ∙ sym h.lanes_len) lanes workers h.ready here.ready;
    shares = grown (λ w (p : WorkerPart K H). p.share ≡ share_of_worker o.share o.workers packets w) a.workers.items b.workers.items n x.worker h.workers_len workers h.shares here.share;
    thresholds = grown (λ w (p : WorkerPart K H). p.sketch.threshold ≡ o.threshold) a.workers.items b.workers.items n x.worker h.workers_len workers h.thresholds here.threshold;
    ends = ends_more a.lanes.items b.lanes.items a.outs.items b.outs.items x.lane x.out lanes outs h.ends here.ends;
    untaken = all_more (λ (e : OutView). e.taken ≡ []) a.outs.items b.outs.items x.out outs h.untaken here.untaken;
  }

-- an answer whose lists hold zeros
pub has_room : (workers count : ℕ) (keys : List FlowKey) (a : Answer) → count ≡ length keys → a.front.items ≡ replicate workers 0 → a.upto.items ≡ replicate workers 0
    → a.shown.items ≡ replicate count (pos 0) → HasRoomFor workers keys a
has_room workers count keys a is front upto shown = record {
  front = ap length front ∙ length-replicate {A = ℕ} workers 0;
  upto = ap length upto ∙ length-replicate {A = ℕ} workers 0;
  shown = ap length shown ∙ length-replicate {A = ℤ} count (pos 0) ∙ is;
}

pub news_none : (o : Options) (q : ℕ) (xs : List Answer) → xs ≡ [] → AreNew o q 0 xs
news_none o q xs none = record {
  len = ap length none;
  room = subst (All (HasRoomFor o.workers (keys_of o))) (sym none) (All-nil (HasRoomFor o.workers (keys_of o)));
  numbered = λ k d lt. absurd (omega (arith, lt));
}

pub news_more : (o : Options) (q n : ℕ) (xs new : List Answer) (a : Answer) → AreNew o q n xs → new ≡ xs ++ a ∷ [] → HasRoomFor o.workers (keys_of o) a → a.reader ≡ q → a.number ≡ n
    → AreNew o q (n + 1) new
news_more o q n xs new a h is room reader number = record {
  len = len_more xs new a n h.len is;
  room = all_more (HasRoomFor o.workers (keys_of o)) xs new a is h.room room;
  numbered = grown (λ k (x : Answer). (x.reader ≡ q) × (x.number ≡ k)) xs new n a h.len is h.numbered (reader, number);
}

pub lists_none : (o : Options) (xs : List (Listed Answer)) → xs ≡ [] → AreLists o 0 xs
lists_none o xs none = record { len = ap length none; each = λ k q d lt. absurd (omega (arith, lt)) }

pub lists_more : (o : Options) (n q : ℕ) (xs new : List (Listed Answer)) (a : Listed Answer) → AreLists o n xs → new ≡ xs ++ a ∷ [] → n + q + 1 ≡ o.readers → AreNew o q o.asks a.items
    → AreLists o (n + 1) new
lists_more o n q xs new a h is at here =
    let own : ℕ → Listed Answer → Type 0 = λ k x. (p : ℕ) → k + p + 1 ≡ o.readers → AreNew o p o.asks x.items in
    let last : own n a = λ p to. subst (λ (z : ℕ). AreNew o z o.asks a.items) (let same : q ≡ p = omega (arith, at, to) in same) here in
    let all = grown own xs new n a h.len is (λ k d below p to. h.each k p d below to) last in
    record { len = len_more xs new a n h.len is; each = λ k p d lt to. all k d lt p to }

-- the lists without the last, which are the answers of this reader
pub lists_before : (o : Options) (q : ℕ) (all xs : List (Listed Answer)) (a : Listed Answer) → AreLists o (length all) all → all ≡ xs ++ a ∷ [] → length all + q ≡ o.readers
    → AreLists o (length xs) xs × AreNew o q o.asks a.items
lists_before o q all xs a h is at =
    let long : length all ≡ length xs + 1 = len_more xs all a (length xs) refl is in
    let early : (k : ℕ) (d : Listed Answer) → k < length xs → get_or all k d ≡ get_or xs k d = λ k d lt. ap (λ (ys : List (Listed Answer)). get_or ys k d) is ∙ get_or_append_left xs (a ∷ []) d k lt in
    let late : get_or all (length xs) a ≡ a = ap (λ (ys : List (Listed Answer)). get_or ys (length xs) a) is ∙ get_or_push xs a a (length xs) refl in (
      record {
        len = refl;
        each = λ k p d lt to. subst (λ (z : Listed Answer). AreNew o p o.asks z.items) (early k d lt) (h.each k p d (omega (arith, long, lt)) to);
      },
      subst (λ (z : Listed Answer). AreNew o q o.asks z.items) late (h.each (length xs) q a (omega (arith, long)) (omega (arith, long, at))),
    )

module _ {K H : Type 0} where
  pub is_reader : (o : Options) (w : WriterView) (q : ℕ) (p : ReaderPart K H) → IsFreshView w p.view → AreNew o q o.asks p.answers.items → IsReader o w q p
  is_reader o w q p first new = record {
    pair = first.pair;
    known = first.known;
    asks = new.len;
    room = new.room;
    numbered = new.numbered;
  }

  -- the views have the layout of the run, and so have the readers' answers room
  pub have_room : (o : Options) (w : WriterView) (parts : List (ReaderPart K H)) → length parts ≡ o.readers → w.layout ≡ layout_in o → AreReaders o w o.readers parts → HaveRoom (keys_of o) parts
  have_room o w parts len layout readers = record {
    each = λ i p lt.
        let h = readers i p (omega (arith, len, lt)) in
        let workers : (get_or parts i p).view.layout.workers ≡ o.workers = ap (λ (l : Layout). l.workers) (h.pair.1 ∙ layout) in
        subst (λ (n : ℕ). All (HasRoomFor n (keys_of o)) (get_or parts i p).answers.items) (sym workers) h.room;
  }

-- the views of a new pair
pub all_first : (w : WriterView) (views : List ReaderView) → All (λ v. (v.book ≡ w.book) × (v.layout ≡ w.layout) × (v.known ≡ []) × (v.told ≡ [])) views → All (IsFreshView w) views
all_first w views h k d lt = let v = h k d lt in record { pair = (v.0, v.1); known = v.2 }
