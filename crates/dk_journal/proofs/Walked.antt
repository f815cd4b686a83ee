-- Records one behind the other: counted, and put into a book.
use Rattle.std.proofs.Common.{◌≡◌, ℕ, true, false, zero, ◌+◌, ◌*◌, ◌^◌, ◌<◌, ◌≤◌, List, [], ◌∷◌, ◌++◌, length, drop, Option, Some, None, refl, ap, sym, subst, ◌∙◌, arith, length-append, append_assoc, IfSome}
use Rattle.std.proofs.Math.Nat.{mul-le-mul_left}
use Rattle.std.proofs.lemmas.List.{append-nil, length_push}
use Rattle.std.proofs.lemmas.List.Elements.{All-nil, All-cons, All-append}
use Rattle.dk_num.specs.Decimal.{Decimal}
use Rattle.dk_types.specs.declared.entry.Entry.{Entry}
use Rattle.dk_types.specs.declared.entry.Said.{Said}
use Rattle.dk_types.specs.declared.entry.Said.TheVariants.{Values, Failed}
use Rattle.dk_types.specs.Entries.{values_of, next_attempt}
use Rattle.dk_types.specs.Cards.{Card, SumUp}
use Rattle.dk_record.specs.Payloads.{payload, payload_size, IsStored}
use Rattle.dk_record.specs.Files.{AreRecords, none, more}
use Rattle.dk_record.specs.Readings.{IsCount}
use Rattle.dk_record.proofs.Once.{payload_same, length-payload}
use Rattle.dk_book.specs.Books.{BookState, room_taken}
use Rattle.dk_book.specs.Told.{StandsFor}
use Rattle.dk_journal.specs.Walks.{IsRecord, HasNoRecord, HasNextRecord, AreCounted, HasRoom, AreWalked, IsLast, IsPut, PutsEntry, PutsRecord, PutsAll}
use Rattle.dk_journal.specs.Walks as walks

pub at_widths : (P : ℕ → ℕ → Type 0) (n m k l : ℕ) → n ≡ k → m ≡ l → P n m → P k l
at_widths P n m k l e f p = subst (λ x. P x l) e (subst (λ y. P n y) f p)

pub record_at : (n m k l : ℕ) (bytes : List ℕ) (e : Entry) (rest : List ℕ) → n ≡ k → m ≡ l → IsRecord n m bytes e rest → IsRecord k l bytes e rest
record_at n m k l bytes e rest f g r = at_widths (λ x y. IsRecord x y bytes e rest) n m k l f g r

module _ (n m : ℕ) where
  -- one record stands at the front at most
  pub record_same : (bytes : List ℕ) (e other : Entry) (rest others : List ℕ) → IsRecord n m bytes e rest → IsRecord n m bytes other others → (e ≡ other) × (rest ≡ others)
  record_same bytes e other rest others one two =
      let same : one.gate ∷ (payload e ++ rest) ≡ two.gate ∷ (payload other ++ others) = sym one.split ∙ two.split in
      payload_same n m e other rest others one.stored two.stored (ap (drop 1) same)

  taken : (said : Said) → IfSome (values_of said) (λ values. length values ≡ m) → payload_size n said ≡ 18 * n + 5 + 18 * (m * room_taken said)
  taken (Values values) long = omega (arith, long)
  taken Failed long = omega arith

  -- how many bytes a record takes with its gate
  pub record_length : (bytes : List ℕ) (e : Entry) (rest : List ℕ) → IsRecord n m bytes e rest → length bytes ≡ 18 * n + 6 + 18 * (m * room_taken e.said) + length rest
  record_length bytes e rest r =
      let size : payload_size (length e.point) e.said ≡ payload_size n e.said = ap (λ k. payload_size k e.said) r.stored.point_length in
      omega (arith, ap length r.split, length-append (payload e) rest, length-payload e, size, taken e.said r.stored.values_length)

  -- and so many records
  pub counted_length : (bytes : List ℕ) (records values : ℕ) → AreCounted n m bytes records values → 18 * (records * n) + 6 * records + 18 * (values * m) ≤ length bytes
  counted_length bytes zero zero (walks.none _ nothing) = omega arith
  counted_length bytes _ _ (walks.more _ e rest records values r c) =
      let size = record_length bytes e rest r in
      let left = counted_length rest records values c in
      omega (arith, size, left)

  -- a book can have room for as many as a file can hold, and for some more
  pub record Fits (records values cards : ℕ) : Type 0 where
    pub cards_fit : records + cards < 2 ^ 32
    pub values_fit : values + cards < 2 ^ 32
    pub points_fit : (records + cards) * n ≤ 2 ^ 25
    pub all_values_fit : (values + cards) * m ≤ 2 ^ 25

  pub counted_fits : (bytes : List ℕ) (records values cards : ℕ) → AreCounted n m bytes records values → length bytes ≤ 2 ^ 28 → IsCount n → IsCount m → cards ≤ 100000 → Fits records values cards
  counted_fits bytes records values cards counted few variables responses some =
      let size = counted_length bytes records values counted in
      let each = mul-le-mul_left values responses.some in
      let more_points = mul-le-mul_left cards variables.few in
      let more_values = mul-le-mul_left cards responses.few in
      record {
        cards_fit = omega (arith, size, few, some);
        values_fit = omega (arith, size, few, some, each);
        points_fit = omega (arith, size, few, some, more_points);
        all_values_fit = omega (arith, size, few, some, more_values);
      }

  -- the records behind the first
  pub record Behind (rest : List ℕ) (e : Entry) (records values : ℕ) : Type 0 where
    pub fewer : ℕ
    pub less : ℕ
    pub counted : AreCounted n m rest fewer less
    pub records_are : records ≡ 1 + fewer
    pub values_are : values ≡ room_taken e.said + less

  pub counted_behind : (bytes : List ℕ) (e : Entry) (rest : List ℕ) (records values : ℕ) → IsRecord n m bytes e rest → AreCounted n m bytes records values → Behind rest e records values
  counted_behind bytes e rest _ _ r (walks.none _ nothing) = absurd (nothing e rest r)
  counted_behind bytes e rest _ _ r (walks.more _ other others records values o c) =
      let same = record_same bytes e other rest others r o in
      record {
        fewer = records;
        less = values;
        counted = subst (λ l. AreCounted n m l records values) (sym same.1) c;
        records_are = refl;
        values_are = ap (λ (x : Entry). room_taken x.said + values) (sym same.0);
      }

  pub room_here : (bytes : List ℕ) (e : Entry) (rest : List ℕ) (cards : ℕ) (book : BookState) → IsRecord n m bytes e rest → HasRoom n m cards bytes book →
      (1 + cards ≤ book.spare) × (room_taken e.said + cards ≤ book.room)
  room_here bytes e rest cards book r h =
      let b = counted_behind bytes e rest h.records h.values r h.counted in
      (omega (arith, h.spare, b.records_are), omega (arith, h.room, b.values_are))

  pub room_behind : (bytes : List ℕ) (e : Entry) (rest : List ℕ) (cards : ℕ) (old new : BookState) → IsRecord n m bytes e rest → HasRoom n m cards bytes old →
      old.spare ≤ new.spare + 1 → new.room + room_taken e.said ≡ old.room → HasRoom n m cards rest new
  room_behind bytes e rest cards old new r h spare room =
      let b = counted_behind bytes e rest h.records h.values r h.counted in
      record {
        records = b.fewer;
        values = b.less;
        counted = b.counted;
        spare = omega (arith, h.spare, b.records_are, spare);
        room = omega (arith, h.room, b.values_are, room);
      }

  few_taken : (said : Said) → room_taken said ≤ 1
  few_taken (Values values) = omega arith
  few_taken Failed = omega arith

  -- what is counted from here on, with the record at the front
  pub counted_more : (bytes : List ℕ) (e : Entry) (rest : List ℕ) (records values taken : ℕ) (all : List ℕ) (done given : ℕ) → IsRecord n m bytes e rest → taken ≡ room_taken e.said →
      ((more_records more_values : ℕ) → AreCounted n m bytes more_records more_values → AreCounted n m all (done + more_records) (given + more_values)) →
      AreCounted n m rest records values → AreCounted n m all (done + 1 + records) (given + taken + values)
  counted_more bytes e rest records values taken all done given r e-taken was counted =
      let more_records : done + (1 + records) ≡ done + 1 + records = omega arith in
      let more_values : given + (room_taken e.said + values) ≡ given + taken + values = omega (arith, e-taken) in
      at_widths (λ k l. AreCounted n m all k l) (done + (1 + records)) (given + (room_taken e.said + values)) (done + 1 + records) (given + taken + values) more_records more_values
      (was (1 + records) (room_taken e.said + values) (walks.more bytes e rest records values r counted))

  pub counted_few : (bytes : List ℕ) (e : Entry) (rest : List ℕ) → IsRecord n m bytes e rest → (1 + length rest ≤ length bytes) × (room_taken e.said ≤ 1)
  counted_few bytes e rest r = (omega (arith, record_length bytes e rest r), few_taken e.said)

  -- the record at the front is put
  pub put_here : (cards : ℕ) (entries : List Entry) (bytes behind : List ℕ) (old new : BookState) (p : List Decimal) (attempt : ℕ) (one other : Said) → one ≡ other →
      IsRecord n m bytes (record { point = p; attempt = attempt; said = other }) behind → HasRoom n m cards bytes old →
      PutsEntry entries (record { point = p; attempt = attempt; said = one }) old new true → IsPut n m cards entries bytes behind new
  put_here cards entries bytes behind old new p attempt one other same r room puts =
      let put = subst (λ (s : Said). PutsEntry entries (record { point = p; attempt = attempt; said = s }) old new true) same puts in
      record {
        e = record { point = p; attempt = attempt; said = other };
        is_record = r;
        stands = put.0;
        room = room_behind bytes (record { point = p; attempt = attempt; said = other }) behind cards old new r room put.1 put.2;
      }

  -- the record at the front may not come next
  pub none_due : (cards : ℕ) (entries : List Entry) (bytes behind : List ℕ) (old new : BookState) (p : List Decimal) (attempt : ℕ) (one other : Said) →
      IsRecord n m bytes (record { point = p; attempt = attempt; said = other }) behind → HasRoom n m cards bytes old →
      PutsEntry entries (record { point = p; attempt = attempt; said = one }) old new false → IsLast n m cards entries bytes new
  none_due cards entries bytes behind old new p attempt one other r room puts =
      let e : Entry = record { point = p; attempt = attempt; said = other } in
      let here = room_here bytes e behind cards old r room in
      record {
        stands = puts.0;
        last = λ next. let same = record_same bytes next.e e next.rest behind next.is_record r in
            puts.3 (subst (λ (x : Entry). next_attempt entries x.point ≡ Some x.attempt) same.0 next.next.next);
        spare = omega (arith, here.0, puts.1);
        room = omega (arith, here.1, puts.2);
      }

  -- no record stands at the front
  pub none_there : (cards : ℕ) (entries : List Entry) (bytes : List ℕ) (book : BookState) → HasNoRecord n m bytes → StandsFor book entries → HasRoom n m cards bytes book →
      IsLast n m cards entries bytes book
  none_there cards entries bytes book nothing stands room =
      record { stands = stands; last = λ next. nothing next.e next.rest next.is_record; spare = omega (arith, room.spare); room = omega (arith, room.room) }

  -- no records
  pub walked_none : (bytes : List ℕ) → AreWalked n m bytes [] bytes
  walked_none bytes = record { run = []; are_records = none; stored = All-nil (IsStored n m); split = refl }

  records_more : (entries : List Entry) (run : List ℕ) (gate : ℕ) (e : Entry) → 0 < gate → AreRecords entries run → AreRecords (entries ++ e ∷ []) (run ++ gate ∷ (payload e ++ []))
  records_more [] run gate e is_open none = more gate e [] [] is_open none
  records_more (x ∷ entries) run gate e is_open (more other _ _ behind other_open are) =
      subst (AreRecords (x ∷ (entries ++ e ∷ []))) (ap (λ (l : List ℕ). other ∷ l) (sym (append_assoc (payload x) behind (gate ∷ (payload e ++ [])))))
      (more other x (entries ++ e ∷ []) (behind ++ gate ∷ (payload e ++ [])) other_open (records_more entries behind gate e is_open are))

  -- one record more
  pub walked_more : (bytes : List ℕ) (entries : List Entry) (rest : List ℕ) (e : Entry) (behind : List ℕ) → AreWalked n m bytes entries rest → IsRecord n m rest e behind →
      AreWalked n m bytes (entries ++ e ∷ []) behind
  walked_more bytes entries rest e behind w r = record {
    run = w.run ++ r.gate ∷ (payload e ++ []);
    are_records = records_more entries w.run r.gate e r.is_open w.are_records;
    stored = All-append (IsStored n m) entries (e ∷ []) w.stored (All-cons (IsStored n m) e [] r.stored (All-nil (IsStored n m)));
    split = w.split ∙ ap (λ l. w.run ++ l) (r.split ∙ ap (λ (l : List ℕ). r.gate ∷ (l ++ behind)) (sym (append-nil (payload e)))) ∙ sym (append_assoc w.run (r.gate ∷ (payload e ++ [])) behind);
  }

pub no_entries : (book : BookState) → book.cards ≡ [] → StandsFor book []
no_entries book e = record { well_formed = tt; sum_up = subst (λ (cards : List Card). SumUp cards []) (sym e) (record { each = λ p. refl }) }

-- the records of so many entries were put into a book that had no cards first
pub record IsUnderWay (bytes : List ℕ) (first : BookState) (rest : List ℕ) (count : ℕ) (book : BookState) : Type 0 where
  pub entries : List Entry
  pub walked : AreWalked first.variables first.responses bytes entries rest
  pub count_is : count ≡ length entries
  pub stands : StandsFor book entries
  pub room : (cards : ℕ) → HasRoom first.variables first.responses cards bytes first → HasRoom first.variables first.responses cards rest book
  pub variables : book.variables ≡ first.variables
  pub responses : book.responses ≡ first.responses
  pub short : count + length rest ≤ length bytes

-- what a step makes of a book that stands for entries, whichever these are
abbrev pub Step : (old : BookState) → (rest : List ℕ) → (new : BookState) → Option (List ℕ) → Type 0
Step old rest new behind = (entries : List Entry) (cards : ℕ) → StandsFor old entries → HasRoom old.variables old.responses cards rest old →
    PutsRecord old.variables old.responses cards entries rest new behind

pub room_now : (bytes : List ℕ) (first : BookState) (rest : List ℕ) (count : ℕ) (book : BookState) → IsUnderWay bytes first rest count book → (cards : ℕ) →
    HasRoom first.variables first.responses cards bytes first → HasRoom book.variables book.responses cards rest book
room_now bytes first rest count book u cards h =
    at_widths (λ n m. HasRoom n m cards rest book) first.variables first.responses book.variables book.responses (sym u.variables) (sym u.responses) (u.room cards h)

pub begins : (bytes : List ℕ) (first : BookState) → first.cards ≡ [] → IsUnderWay bytes first bytes 0 first
begins bytes first e = record {
  entries = [];
  walked = walked_none first.variables first.responses bytes;
  count_is = refl;
  stands = no_entries first e;
  room = λ cards h. h;
  variables = refl;
  responses = refl;
  short = omega arith;
}

-- one record more
pub under_way_more : (bytes : List ℕ) (first : BookState) (rest : List ℕ) (count : ℕ) (old : BookState) (behind : List ℕ) (new : BookState) → IsUnderWay bytes first rest count old →
    HasRoom first.variables first.responses 0 bytes first → Step old rest new (Some behind) → new.variables ≡ old.variables → new.responses ≡ old.responses →
    IsUnderWay bytes first behind (count + 1) new
under_way_more bytes first rest count old behind new u room step variables responses =
    let p = step u.entries 0 u.stands (room_now bytes first rest count old u 0 room) in
    let r = at_widths (λ n m. IsRecord n m rest p.e behind) old.variables old.responses first.variables first.responses u.variables u.responses p.is_record in
    let size = record_length first.variables first.responses rest p.e behind r in
    record {
      entries = u.entries ++ p.e ∷ [];
      walked = walked_more first.variables first.responses bytes u.entries rest p.e behind u.walked r;
      count_is = omega (arith, u.count_is, length_push u.entries p.e);
      stands = p.stands;
      room = λ cards h. let q = step u.entries cards u.stands (room_now bytes first rest count old u cards h) in
          at_widths (λ n m. HasRoom n m cards behind new) old.variables old.responses first.variables first.responses u.variables u.responses q.room;
      variables = variables ∙ u.variables;
      responses = responses ∙ u.responses;
      short = omega (arith, u.short, size);
    }

-- less is left behind it
pub shorter : (bytes : List ℕ) (first : BookState) (rest : List ℕ) (count : ℕ) (old : BookState) (behind : List ℕ) (new : BookState) → IsUnderWay bytes first rest count old →
    HasRoom first.variables first.responses 0 bytes first → Step old rest new (Some behind) → length behind < length rest
shorter bytes first rest count old behind new u room step =
    let p = step u.entries 0 u.stands (room_now bytes first rest count old u 0 room) in
    omega (arith, record_length old.variables old.responses rest p.e behind p.is_record)

-- the step behind the last record
pub all_put : (bytes : List ℕ) (first : BookState) (rest : List ℕ) (count : ℕ) (old new : BookState) → IsUnderWay bytes first rest count old → Step old rest new None →
    (cards : ℕ) → HasRoom first.variables first.responses cards bytes first → PutsAll first.variables first.responses cards bytes rest count new
all_put bytes first rest count old new u step cards h = record {
  entries = u.entries;
  walked = u.walked;
  count_is = u.count_is;
  is_last = at_widths (λ n m. IsLast n m cards u.entries rest new) old.variables old.responses first.variables first.responses u.variables u.responses
      (step u.entries cards u.stands (room_now bytes first rest count old u cards h));
}
