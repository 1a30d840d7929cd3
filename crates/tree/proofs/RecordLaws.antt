-- A value, a key and a record are read back from their bytes, and what is a record are the bytes of what it says; records stand as the
-- triples of what they say. Each law is for both key orders. Assumes nothing.
use Prim.Native.Nat.{ℕ, zero, suc, ◌+◌, ◌-◌, ◌≤◌, ◌<◌, ◌^◌}
use mathlib.Core.Path.{◌≡◌, refl, sym, ap, ap₂, ◌∙◌}
use mathlib.Core.Logic.{⊎_elim}
use mathlib.Core.List.Memᴰ.{cases_cons as uncons}
use mathlib.Core.List.Memᴰ.{head as here}
use mathlib.Core.List.Memᴰ.{not-nil as none_in}
use mathlib.Core.List.Memᴰ.{tail as there}
use mathlib.Core.List.{List, [], ◌∷◌, ◌++◌, append-nil}
use mathlib.Core.Bool.{true, ◌&&◌}
use native.Mathlib.Omega.{arith}
use lib.Dec.{leb}
use borrow.Author.Tests.{le-leb, leb-true}
use lib.ListN.{length, take, drop, get_or, length-append, length-drop, take-append-drop}
use lib.Seq.{take_all, take_at, drop_at, drop-drop, drop-cons, get_or-drop, length-take-le}
use Rattle.laws.specs.Order.{below, is_less}
use Rattle.laws.specs.Prefix.{Equality, same_number, same_list}
use Rattle.laws.specs.Sorted.{◌∈◌}
use Rattle.laws.proofs.Truth.{clash, and-true}
use Rattle.laws.proofs.Prefix.{number-equality}
use Rattle.data_model.specs.Path.{Figures, is_path, same_path, by_bytes}
use Rattle.data_model.specs.Subspace.{same_subspace}
use Rattle.data_model.specs.Entry.{Entry}
use Rattle.data_model.specs.Origin.{is_origin, origin_of, same_origin}
use Rattle.keys.specs.Encode.{be, Triple, key_most}
use Rattle.keys.specs.Decode.{Taken, refused, took, number, was_read}
use Rattle.keys.proofs.Encoding.{be-length}
use Rattle.data_model.proofs.Orders.{component-equality, path-equality, subspace-equality}
use Rattle.data_model.proofs.OriginLaws.{origin-is, origin-back, origin-forth, origin-equality}
use Rattle.key_laws.specs.KeyOrder.{Sized}
use Rattle.key_laws.specs.Bytes.{Bytes}
use Rattle.key_laws.proofs.Fits.{bytes_take, bytes_drop}
use Rattle.key_laws.proofs.BigEndian.{number-back, number-forth, number-sized}
use Rattle.key_laws.proofs.Inverse.{spt-back, tsp-back, spt-forth, tsp-forth}
use Rattle.key_laws.proofs.Ordered.{spt-ordered, tsp-ordered, spt-apart, tsp-apart}
use Rattle.key_laws.proofs.KeyLength.{spt-least, tsp-least, spt-most, tsp-most}
use Rattle.tree.specs.Value.{digest_at, token_at, available_at, origin_at, session_at, value_length, origin_bytes, value_bytes, read_value, is_value}
use Rattle.tree.specs.Stored.{key_in, read_in, order_in, key_of, value_part, key_below, is_key, is_record, Stored, stored_from, triple_read, stored, contents, triple_of, value_for, record_of, Lawful, same_entry, same_stored}
use Rattle.tree.specs.declared.value.Value.{Value}
use Rattle.tree.specs.declared.stored.KeyOrder.{KeyOrder}
use Rattle.tree.specs.declared.stored.KeyOrder.TheVariants.{Spt, Tsp}

-- Values.
pub record Valued (v : Value) : Type 0 where
  pub payload : v.payload_length < 2 ^ 64
  pub digest : length v.payload_digest ≡ 32
  pub token : length v.token ≡ 64
  pub available : v.available < 2 ^ 64
  pub session : v.session < 2 ^ 64

module _ (v : Value) where
  pub value-length : length v.payload_digest ≡ 32 → length v.token ≡ 64 → length (value_bytes v) ≡ value_length
  unfolding value_bytes
  value-length d t = simp (length-append, be-length, d, t)

  pub value-back : Valued v → read_value (value_bytes v) ≡ v
  unfolding read_value value_bytes
  value-back h =
      let d = v.payload_digest in
      let t = v.token in
      let o = origin_bytes v.kind v.session in
      let z = be 8 v.available ++ o in
      let b = be 8 v.payload_length ++ (d ++ (t ++ z)) in
      let at-digest : drop digest_at b ≡ d ++ (t ++ z) = drop_at (be 8 v.payload_length) (d ++ (t ++ z)) 8 (be-length 8 v.payload_length) in
      let at-token : drop token_at b ≡ t ++ z = sym (drop-drop 32 digest_at b) ∙ ap (drop 32) at-digest ∙ drop_at d (t ++ z) 32 h.digest in
      let at-available : drop available_at b ≡ z = sym (drop-drop 64 token_at b) ∙ ap (drop 64) at-token ∙ drop_at t z 64 h.token in
      let at-origin : drop origin_at b ≡ o = sym (drop-drop 8 available_at b) ∙ ap (drop 8) at-available ∙ drop_at (be 8 v.available) o 8 (be-length 8 v.available) in
      let at-session : drop session_at b ≡ be 8 v.session = sym (drop-drop 1 origin_at b) ∙ ap (drop 1) at-origin in
      let p : number b ≡ v.payload_length = number-back v.payload_length (d ++ (t ++ z)) h.payload in
      let q : take 32 (drop digest_at b) ≡ d = ap (take 32) at-digest ∙ take_at d (t ++ z) 32 h.digest in
      let r : take 64 (drop token_at b) ≡ t = ap (take 64) at-token ∙ take_at t z 64 h.token in
      let s : number (drop available_at b) ≡ v.available = ap number at-available ∙ number-back v.available o h.available in
      let k : get_or b origin_at 0 ≡ v.kind = sym (get_or-drop origin_at b 0 0) ∙ ap (λ (l : List ℕ). get_or l 0 0) at-origin in
      let n : number (drop session_at b) ≡ v.session = ap number (at-session ∙ sym (append-nil (be 8 v.session))) ∙ number-back v.session [] h.session in
      λ i. record { payload_length = p i; payload_digest = q i; token = r i; available = s i; kind = k i; session = n i }

module _ (b : List ℕ) (bytes : Bytes b) (l : length b ≡ value_length) where
  parts : (n m : ℕ) → take n (drop m b) ++ drop (m + n) b ≡ drop m b
  parts n m = ap (take n (drop m b) ++◌) (sym (drop-drop n m b)) ∙ take-append-drop n (drop m b)

  pub value-forth : value_bytes (read_value b) ≡ b
  unfolding read_value value_bytes
  value-forth =
      let session : be 8 (number (drop session_at b)) ≡ drop session_at b
      = number-forth (drop session_at b) (bytes_drop session_at b bytes) (simp length-drop (omega arith)) ∙ take_all 8 (drop session_at b) (simp length-drop (omega arith)) in
      let origin : origin_bytes (get_or b origin_at 0) (number (drop session_at b)) ≡ drop origin_at b
      = ap (get_or b origin_at 0 ∷◌) session ∙ sym (drop-cons b origin_at 0 (omega arith)) in
      let available : be 8 (number (drop available_at b)) ≡ take 8 (drop available_at b)
      = number-forth (drop available_at b) (bytes_drop available_at b bytes) (simp length-drop (omega arith)) in
      ap₂ ◌++◌ (number-forth b bytes (omega arith))
      (ap (take 32 (drop digest_at b) ++◌)
      (ap (take 64 (drop token_at b) ++◌) (ap₂ ◌++◌ available origin ∙ parts 8 available_at) ∙ parts 64 token_at)
      ∙ parts 32 digest_at)
      ∙ parts 8 0

  pub value-sized : Valued (read_value b)
  unfolding read_value
  value-sized = record {
    payload = number-sized b bytes (omega arith);
    digest = length-take-le 32 (drop digest_at b) (simp length-drop (omega arith));
    token = length-take-le 64 (drop token_at b) (simp length-drop (omega arith));
    available = number-sized (drop available_at b) (bytes_drop available_at b bytes) (simp length-drop (omega arith));
    session = number-sized (drop session_at b) (bytes_drop session_at b bytes) (simp length-drop (omega arith));
  }

-- Keys: here alone a law tells the orders apart.
module _ (f : Figures) (t : Triple) (legal : is_path f t.path ≡ true) where
  pub key_back : (o : KeyOrder) → Sized t → read_in o f (key_in o t) ≡ took t (length (key_in o t))
  unfolding read_in key_in
  key_back Spt = spt-back f t legal
  key_back Tsp = tsp-back f t legal

  pub key-most : (o : KeyOrder) → length (key_in o t) ≤ key_most f
  unfolding key_in
  key-most Spt = spt-most t f legal
  key-most Tsp = tsp-most t f legal

pub key_least : (o : KeyOrder) (t : Triple) → 26 ≤ length (key_in o t)
unfolding key_in
key_least Spt t = spt-least t
key_least Tsp t = tsp-least t

pub key-forth : (o : KeyOrder) (f : Figures) (k : List ℕ) → Bytes k → (t : Triple) (n : ℕ) → read_in o f k ≡ took t n → (key_in o t ≡ k) × (is_path f t.path ≡ true) × Sized t
unfolding read_in key_in
key-forth Spt f k bytes t n = spt-forth f k bytes t n
key-forth Tsp f k bytes t n = tsp-forth f k bytes t n

module _ (a b : Triple) (h : Sized a) (k : Sized b) where
  pub key-ordered : (o : KeyOrder) → by_bytes (key_in o a) (key_in o b) ≡ order_in o a b
  unfolding key_in order_in
  key-ordered Spt = spt-ordered a b h k
  key-ordered Tsp = tsp-ordered a b h k

  pub key_apart : (o : KeyOrder) → key_in o a ≡ key_in o b → a ≡ b
  unfolding key_in
  key_apart Spt = spt-apart a b h k
  key_apart Tsp = tsp-apart a b h k

pub key-is : (o : KeyOrder) (f : Figures) (t : Triple) → is_path f t.path ≡ true → Sized t → is_key o f (key_in o t) ≡ true
unfolding is_key was_read
key-is o f t legal sized = ap was_read (key_back f t legal o sized)

-- What was taken, as a triple.
taken : (x : Taken Triple) → was_read x ≡ true → (n : ℕ) × (x ≡ took (triple_read x) n)
unfolding was_read triple_read
taken refused e = clash e refl
taken (took t n) e = (n, refl)

pub key-is-forth : (o : KeyOrder) (f : Figures) (k : List ℕ) → Bytes k → is_key o f k ≡ true
    → (key_in o (triple_read (read_in o f k)) ≡ k) × (is_path f (triple_read (read_in o f k)).path ≡ true) × Sized (triple_read (read_in o f k))
unfolding is_key
key-is-forth o f k bytes e = let t = taken (read_in o f k) e in key-forth o f k bytes (triple_read (read_in o f k)) t.0 t.1

-- A key and a value, taken apart again.
module _ (k v : List ℕ) (l : length v ≡ value_length) where
  pub key-first : key_of (k ++ v) ≡ k
  key-first = take_at k v (length (k ++ v) - value_length) (simp length-append (omega arith))

  pub value-last : value_part (k ++ v) ≡ v
  value-last = drop_at k v (length (k ++ v) - value_length) (simp length-append (omega arith))

-- Records of what is stored.
module _ (f : Figures) (s : Stored) (h : Lawful f s) where
  for-length : length (value_bytes (value_for s)) ≡ value_length
  unfolding value_for
  for-length = value-length (value_for s) h.digest h.token

  for-back : read_value (value_bytes (value_for s)) ≡ value_for s
  unfolding value_for
  for-back = value-back (value_for s) (record { payload = h.payload; digest = h.digest; token = h.token; available = h.available; session = h.session })

  path-of : is_path f (triple_of s.entry).path ≡ true
  unfolding triple_of
  path-of = h.path

  module _ (o : KeyOrder) where
    pub key-of-record : key_of (record_of o s) ≡ key_in o (triple_of s.entry)
    unfolding record_of
    key-of-record = key-first (key_in o (triple_of s.entry)) (value_bytes (value_for s)) for-length

    pub value-of-record : value_part (record_of o s) ≡ value_bytes (value_for s)
    unfolding record_of
    value-of-record = value-last (key_in o (triple_of s.entry)) (value_bytes (value_for s)) for-length

    pub record-length : length (record_of o s) ≡ length (key_in o (triple_of s.entry)) + value_length
    unfolding record_of
    record-length = simp (length-append, for-length)

    pub record-least : 26 + value_length ≤ length (record_of o s)
    record-least = omega (arith, record-length, key_least o (triple_of s.entry))

    pub record-most : length (record_of o s) ≤ key_most f + value_length
    record-most = omega (arith, record-length, key-most f (triple_of s.entry) path-of o)

    pub triple-back : triple_read (read_in o f (key_in o (triple_of s.entry))) ≡ triple_of s.entry
    unfolding triple_read
    triple-back = ap triple_read (key_back f (triple_of s.entry) path-of o h.sized)

    -- What a key and a value say that are those of what is stored.
    pub stored-parts : (ns k v : List ℕ) → s.entry.namespace ≡ ns → k ≡ key_in o (triple_of s.entry) → v ≡ value_bytes (value_for s)
        → stored_from ns (triple_read (read_in o f k)) (read_value v) ≡ s
    unfolding stored_from triple_of value_for
    stored-parts ns k v e x y =
        let t : triple_read (read_in o f k) ≡ triple_of s.entry = ap (λ (k : List ℕ). triple_read (read_in o f k)) x ∙ triple-back in
        let w : read_value v ≡ value_for s = ap read_value y ∙ for-back in
        let g : origin_of (read_value v).kind (read_value v).session ≡ s.origin = ap (λ (x : Value). origin_of x.kind x.session) w ∙ origin-back s.origin in
        λ i. record {
          entry = record {
            namespace = sym e i;
            subspace = (t i).subspace;
            path = (t i).path;
            rank = record { timestamp = (t i).timestamp; payload_digest = (w i).payload_digest; payload_length = (w i).payload_length };
          };
          token = (w i).token;
          available = (w i).available;
          origin = g i;
        }

    pub stored_back : (ns : List ℕ) → s.entry.namespace ≡ ns → stored o f ns (record_of o s) ≡ s
    unfolding stored
    stored_back ns e = stored-parts ns (key_of (record_of o s)) (value_part (record_of o s)) e key-of-record value-of-record

    pub record-lawful : s.available ≤ s.entry.rank.payload_length → is_record o f (record_of o s) ≡ true
    unfolding is_record is_value value_for
    record-lawful e =
        let k : is_key o f (key_of (record_of o s)) ≡ true
        = ap (is_key o f) key-of-record ∙ key-is o f (triple_of s.entry) path-of h.sized in
        let v : is_value (read_value (value_part (record_of o s))) ≡ true
        = ap (λ (b : List ℕ). is_value (read_value b)) value-of-record ∙ ap is_value for-back ∙ ap₂ ◌&&◌ (le-leb s.available s.entry.rank.payload_length e) (origin-is s.origin) in
        rw (le-leb value_length (length (record_of o s)) (omega (arith, record-least)), k) v

-- What is a record, of bytes: the record of what it says, which is lawful.
pub record Says (o : KeyOrder) (f : Figures) (ns r : List ℕ) : Type 0 where
  pub again : record_of o (stored o f ns r) ≡ r
  pub lawful : Lawful f (stored o f ns r)
  pub within : (stored o f ns r).available ≤ (stored o f ns r).entry.rank.payload_length
  pub named : (stored o f ns r).entry.namespace ≡ ns
  pub least : 26 + value_length ≤ length r
  pub most : length r ≤ key_most f + value_length

module _ (o : KeyOrder) (f : Figures) (ns r : List ℕ) (bytes : Bytes r) (is : is_record o f r ≡ true) where
  record-long : value_length ≤ length r
  unfolding is_record
  record-long = leb-true value_length (length r) (and-true (leb value_length (length r)) (is_key o f (key_of r) && is_value (read_value (value_part r))) is).0

  record-key : is_key o f (key_of r) ≡ true
  unfolding is_record
  record-key =
      let k = and-true (leb value_length (length r)) (is_key o f (key_of r) && is_value (read_value (value_part r))) is in
      (and-true (is_key o f (key_of r)) (is_value (read_value (value_part r))) k.1).0

  record-value : is_value (read_value (value_part r)) ≡ true
  unfolding is_record
  record-value =
      let k = and-true (leb value_length (length r)) (is_key o f (key_of r) && is_value (read_value (value_part r))) is in
      (and-true (is_key o f (key_of r)) (is_value (read_value (value_part r))) k.1).1

  part_length : length (value_part r) ≡ value_length
  part_length = simp length-drop (omega (arith, record-long))

  part_bytes : Bytes (value_part r)
  part_bytes = bytes_drop (length r - value_length) r bytes

  key-says : (key_in o (triple_read (read_in o f (key_of r))) ≡ key_of r) × (is_path f (triple_read (read_in o f (key_of r))).path ≡ true) × Sized (triple_read (read_in o f (key_of r)))
  key-says = key-is-forth o f (key_of r) (bytes_take (length r - value_length) r bytes) record-key

  tests : (leb (read_value (value_part r)).available (read_value (value_part r)).payload_length ≡ true)
      × (is_origin (read_value (value_part r)).kind (read_value (value_part r)).session ≡ true)
  unfolding is_value
  tests = let v = read_value (value_part r) in and-true (leb v.available v.payload_length) (is_origin v.kind v.session) record-value

  -- The value is that of what it says.
  says-value : value_for (stored o f ns r) ≡ read_value (value_part r)
  unfolding stored stored_from value_for
  says-value =
      let v = read_value (value_part r) in
      let e = origin-forth v.kind v.session tests.1 in
      λ i. record { payload_length = v.payload_length; payload_digest = v.payload_digest; token = v.token; available = v.available; kind = e.0 i; session = e.1 i }

  says-again : record_of o (stored o f ns r) ≡ r
  unfolding record_of stored stored_from triple_of
  says-again = ap₂ ◌++◌ key-says.0 (ap value_bytes says-value ∙ value-forth (value_part r) part_bytes part_length) ∙ take-append-drop (length r - value_length) r

  says-lawful : Lawful f (stored o f ns r)
  unfolding stored stored_from triple_of read_value
  says-lawful =
      let v = value-sized (value_part r) part_bytes part_length in
      let e = origin-forth (read_value (value_part r)).kind (read_value (value_part r)).session tests.1 in
      record {
        path = key-says.1;
        sized = key-says.2;
        payload = v.payload;
        digest = v.digest;
        token = v.token;
        available = v.available;
        session = rw e.1 v.session;
      }

  says-within : (stored o f ns r).available ≤ (stored o f ns r).entry.rank.payload_length
  unfolding stored stored_from
  says-within = leb-true (read_value (value_part r)).available (read_value (value_part r)).payload_length tests.0

  says-named : (stored o f ns r).entry.namespace ≡ ns
  unfolding stored stored_from
  says-named = refl

  pub record-forth : Says o f ns r
  record-forth = record {
    again = says-again;
    lawful = says-lawful;
    within = says-within;
    named = says-named;
    least = rw (← says-again) (record-least f (stored o f ns r) says-lawful o);
    most = rw (← says-again) (record-most f (stored o f ns r) says-lawful o);
  }

-- Records stand as the triples of what they say.
pub record-ordered : (o : KeyOrder) (f : Figures) (a b : Stored) → Lawful f a → Lawful f b
    → key_below (record_of o a) (record_of o b) ≡ below (order_in o) (triple_of a.entry) (triple_of b.entry)
unfolding below
record-ordered o f a b h k =
    ap₂ (λ (x y : List ℕ). is_less (by_bytes x y)) (key-of-record f a h o) (key-of-record f b k o)
    ∙ ap is_less (key-ordered (triple_of a.entry) (triple_of b.entry) h.sized k.sized o)

-- Equality.
pub entry-equality : Equality Entry same_entry
unfolding same_entry
entry-equality = record {
  self = λ a. cc (
    component-equality.self a.namespace,
    subspace-equality.self a.subspace,
    path-equality.self a.path,
    number-equality.self a.rank.timestamp,
    component-equality.self a.rank.payload_digest,
    number-equality.self a.rank.payload_length,
  );
  equal = equal;
}
  where
    equal : (a b : Entry) → same_entry a b ≡ true → a ≡ b
    equal a b e =
        let e1 = and-true (same_list same_number a.namespace b.namespace) (same_subspace a.subspace b.subspace && (same_path a.path b.path && (same_number a.rank.timestamp b.rank.timestamp && (same_list same_number a.rank.payload_digest b.rank.payload_digest && same_number a.rank.payload_length b.rank.payload_length)))) e in
        let e2 = and-true (same_subspace a.subspace b.subspace) (same_path a.path b.path && (same_number a.rank.timestamp b.rank.timestamp && (same_list same_number a.rank.payload_digest b.rank.payload_digest && same_number a.rank.payload_length b.rank.payload_length))) e1.1 in
        let e3 = and-true (same_path a.path b.path) (same_number a.rank.timestamp b.rank.timestamp && (same_list same_number a.rank.payload_digest b.rank.payload_digest && same_number a.rank.payload_length b.rank.payload_length)) e2.1 in
        let e4 = and-true (same_number a.rank.timestamp b.rank.timestamp) (same_list same_number a.rank.payload_digest b.rank.payload_digest && same_number a.rank.payload_length b.rank.payload_length) e3.1 in
        let e5 = and-true (same_list same_number a.rank.payload_digest b.rank.payload_digest) (same_number a.rank.payload_length b.rank.payload_length) e4.1 in
        let n = component-equality.equal a.namespace b.namespace e1.0 in
        let s = subspace-equality.equal a.subspace b.subspace e2.0 in
        let p = path-equality.equal a.path b.path e3.0 in
        let t = number-equality.equal a.rank.timestamp b.rank.timestamp e4.0 in
        let d = component-equality.equal a.rank.payload_digest b.rank.payload_digest e5.0 in
        let l = number-equality.equal a.rank.payload_length b.rank.payload_length e5.1 in
        λ i. record { namespace = n i; subspace = s i; path = p i; rank = record { timestamp = t i; payload_digest = d i; payload_length = l i } }

pub stored-equality : Equality Stored same_stored
unfolding same_stored
stored-equality = record {
  self = λ a. cc (entry-equality.self a.entry, component-equality.self a.token, number-equality.self a.available, origin-equality.self a.origin);
  equal = λ a b e.
      let k = and-true (same_entry a.entry b.entry) (same_list same_number a.token b.token && (same_number a.available b.available && same_origin a.origin b.origin)) e in
      let m = and-true (same_list same_number a.token b.token) (same_number a.available b.available && same_origin a.origin b.origin) k.1 in
      let n = and-true (same_number a.available b.available) (same_origin a.origin b.origin) m.1 in
      let x = entry-equality.equal a.entry b.entry k.0 in
      let y = component-equality.equal a.token b.token m.0 in
      let z = number-equality.equal a.available b.available n.0 in
      let w = origin-equality.equal a.origin b.origin n.1 in
      λ i. record { entry = x i; token = y i; available = z i; origin = w i };
}

-- What the records of a tree say, as a map of them.
module _ (o : KeyOrder) (f : Figures) (ns : List ℕ) where
  pub contents-length : (recs : List (List ℕ)) → length (contents o f ns recs) ≡ length recs
  contents-length [] = refl
  contents-length (r ∷ rs) = ap suc (contents-length rs)

  pub contents-drop : (k : ℕ) (recs : List (List ℕ)) → drop k (contents o f ns recs) ≡ contents o f ns (drop k recs)
  contents-drop zero recs = refl
  contents-drop (suc k) [] = refl
  contents-drop (suc k) (r ∷ rs) = contents-drop k rs

  pub contents-at : (k : ℕ) (recs : List (List ℕ)) → k < length recs
      → drop k (contents o f ns recs) ≡ stored o f ns (get_or recs k []) ∷ drop (suc k) (contents o f ns recs)
  contents-at k recs h =
      contents-drop k recs
      ∙ ap (contents o f ns) (drop-cons recs k [] h)
      ∙ ap (stored o f ns (get_or recs k []) ∷◌) (sym (contents-drop (suc k) recs))

  pub contents-in : {r : List ℕ} (recs : List (List ℕ)) → r ∈ recs → stored o f ns r ∈ contents o f ns recs
  contents-in [] m = absurd (none_in m)
  contents-in (q ∷ rs) m = ⊎_elim (λ e. here (ap (stored o f ns) e)) (λ n. there (contents-in rs n)) (uncons m)

  pub contents-view : {x : Stored} (recs : List (List ℕ)) → x ∈ contents o f ns recs → (r : List ℕ) × r ∈ recs × (x ≡ stored o f ns r)
  contents-view [] m = absurd (none_in m)
  contents-view (q ∷ rs) m = ⊎_elim
      (λ e. (q, here refl, e))
      (λ n. let k = contents-view rs n in (k.0, there k.1, k.2))
      (uncons m)
