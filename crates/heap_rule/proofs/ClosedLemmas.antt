-- What a closed heap leaves in its words, from that they are sound with its seats' last views.
use Rattle.std.proofs.Common.{◌≡◌, ℕ, ◌+◌, ◌*◌, ◌<◌, ◌≤◌, List, [], ◌∷◌, ◌++◌, get_or, length, slice_index, ap, sym, subst, ◌∙◌, get_or-append-add, arith}
use Rattle.std.proofs.lemmas.List.{get_or_append_left}
use Rattle.heap_model.specs.Counting.{total}
use Rattle.heap_model.specs.Durability.{IsClosedImage, IsCrashImage, Mixes}
use Rattle.heap_model.specs.Geometry.{image_words, used_word}
use Rattle.heap_model.specs.Image.{Image}
use Rattle.core_model.specs.Carriers.{AreSeatsAndCarriers}
use Rattle.core_model.specs.Held.{volatile_image, durable_image}
use Rattle.core_model.specs.Sound.{Each, Sound}
use Rattle.core_model.specs.View.{Setup, View, one_if_some}
use Rattle.heap_rule.specs.Images.{HasRecorded, IsImageOf}
use Rattle.heap_rule.specs.Left.{IsCloseOf, IsCrashOf}
use Rattle.heap_table.specs.Plays.{HasSoundState}
use Rattle.heap_table.specs.AtTable.{IsClosedSound}
use Rattle.heap_rule.proofs.ImageLemmas.{volatile_is, durable_is}
use Rattle.heap_rule.proofs.SeatImageLemmas.{view_recorded}

module _ (k : Setup) (now kept : List ℕ) (views : List View) (closed : IsClosedSound k now kept views) where
  abbrev words : List ℕ
  words = now ++ (kept ++ (closed.drawn ∷ []))

  now_at : (word : ℕ) → word < image_words k.capacity → get_or words word 0 ≡ slice_index now word
  now_at word less = let long = closed.now_long in get_or_append_left now (kept ++ (closed.drawn ∷ [])) 0 word (omega arith)

  behind_now : (at : ℕ) → get_or words (image_words k.capacity + at) 0 ≡ get_or (kept ++ (closed.drawn ∷ [])) at 0
  behind_now at = ap (λ n. get_or words (n + at) 0) (sym closed.now_long) ∙ get_or-append-add now (kept ++ (closed.drawn ∷ [])) at 0

  kept_at : (word : ℕ) → word < image_words k.capacity → get_or words (image_words k.capacity + word) 0 ≡ slice_index kept word
  kept_at word less = let long = closed.kept_long in behind_now word ∙ get_or_append_left kept (closed.drawn ∷ []) 0 word (omega arith)

  drawn_at : get_or words (2 * image_words k.capacity) 0 ≡ closed.drawn
  drawn_at = ap (λ n. get_or words n 0) (let twice : 2 * image_words k.capacity ≡ image_words k.capacity + (image_words k.capacity + 0) =
      omega arith in twice)
      ∙ behind_now (image_words k.capacity + 0) ∙ ap (λ n. get_or (kept ++ (closed.drawn ∷ [])) (n + 0) 0) (sym closed.kept_long)
      ∙ get_or-append-add kept (closed.drawn ∷ []) 0 0

  -- the sound state that it is, in which each seat has its last view
  abbrev pub last_state : (i : ℕ) (v : View) → i < length views → get_or views i v ≡ v → v.carries ≡ 0 → HasSoundState v
  last_state i v below at seat = record {
    words = words;
    views = views;
    seat = i;
    sound = subst (λ s. Sound s words views) (sym (closed.sound.good.set_up i v below at).setup) closed.sound;
    counted = subst (λ s. AreSeatsAndCarriers s views) (sym (closed.sound.good.set_up i v below at).setup) closed.counted;
    is_seat = seat;
    below = below;
    at = at;
  }

  pub mixed_is : (image : Image) → Mixes (slice_index now) (slice_index kept) image
      → Mixes (volatile_image k.capacity words) (durable_image k.capacity words) image
  mixed_is image mixed =
      subst (λ (i : Image). Mixes i (durable_image k.capacity words) image)
      (sym (volatile_is k.capacity now kept closed.drawn closed.now_long closed.kept_long))
      (subst (λ (i : Image). Mixes (slice_index now) i image) (sym (durable_is k.capacity now kept closed.drawn closed.now_long
      closed.kept_long)) mixed)

  pub recorded : Each views (HasRecorded (slice_index now) (slice_index kept))
  recorded i v below at =
      let same = (closed.sound.good.set_up i v below at).setup in
      let capacity = ap (λ (s : Setup). s.capacity) same in
      subst (λ (image : Image). HasRecorded image (slice_index kept) v) (ap (λ c. volatile_image c words) capacity
      ∙ volatile_is k.capacity now kept closed.drawn closed.now_long closed.kept_long)
      (subst (λ (image : Image). HasRecorded (volatile_image v.setup.capacity words) image v) (ap (λ c. durable_image c words) capacity
      ∙ durable_is k.capacity now kept closed.drawn closed.now_long closed.kept_long)
      (view_recorded v words views (subst (λ s. Sound s words views) (sym same) closed.sound) i below at))

  pub images : (image : Image) → Mixes (slice_index now) (slice_index kept) image → Each views (λ v. v.carries ≡ 0 → IsImageOf v image)
  images image mixed i v below at seat = record {
    has = last_state i v below at seat;
    mixed = subst (λ c. Mixes (volatile_image c words) (durable_image c words) image)
        (sym (ap (λ (s : Setup). s.capacity) (closed.sound.good.set_up i v below at).setup)) (mixed_is image mixed);
  }

  pub crashes : (image : Image) → IsCrashImage (slice_index kept) image → Each views (λ v. v.carries ≡ 0 → IsCrashOf v image)
  crashes image crash i v below at seat = record {
    has = last_state i v below at seat;
    crash = subst (λ (kept : Image). IsCrashImage kept image) (sym
        (ap (λ (s : Setup). durable_image s.capacity words) (closed.sound.good.set_up i v below at).setup
        ∙ durable_is k.capacity now kept closed.drawn closed.now_long closed.kept_long)) crash;
  }

  pub closes : (image : Image) → IsClosedImage (slice_index now) image → Each views (λ v. v.carries ≡ 0 → IsCloseOf v image)
  closes image close i v below at seat = record {
    has = last_state i v below at seat;
    close = subst (λ (now : Image). IsClosedImage now image) (sym (ap (λ (s : Setup). volatile_image s.capacity words)
        (closed.sound.good.set_up i v below at).setup
        ∙ volatile_is k.capacity now kept closed.drawn closed.now_long closed.kept_long)) close;
  }

  pub taken_in_all : slice_index now used_word ≡ k.used + total (λ (v : View). v.taken) views
  taken_in_all = sym (now_at used_word (omega arith)) ∙ closed.sound.good.adds.taken

  pub kept_behind : slice_index kept used_word ≤ slice_index now used_word
  kept_behind = let behind = closed.sound.good.shaped.durable.behind in let a = now_at used_word (omega arith) in
      let b = kept_at used_word (omega arith) in omega arith

  pub in_room : slice_index now used_word ≤ k.capacity
  in_room = let room = closed.sound.good.shaped.durable.room in let a = now_at used_word (omega arith) in omega arith

  pub drawn_in_all : closed.drawn ≡ total (λ (v : View). v.draws) views
  drawn_in_all = sym drawn_at ∙ closed.sound.good.adds.draws

  -- the bounds that soundness has
  pub lost_at_most : Each views (λ v. v.losses + v.wins ≤ total (λ (u : View). u.wins) views)
  lost_at_most i v below at = let told = closed.sound.good.lost i v below at in omega arith

  pub moved_at_most : total (λ (v : View). v.moves) views ≤ total (λ (v : View). v.gives) views + k.capacity
  moved_at_most = let told = closed.sound.good.moves in omega arith

  pub drawn_at_most : closed.drawn ≤ k.budget + total (λ (v : View). one_if_some v.stopped) views
  drawn_at_most = let told = closed.sound.good.adds.stopped in let at = drawn_at in omega arith

  pub looked_at_most : Each views (λ v. v.used_look.word + v.taken ≤ slice_index now used_word + v.used_look.taken)
  looked_at_most i v below at = let told = (closed.sound.good.knows i v below at).looked in let is = now_at used_word (omega arith) in omega arith

  pub tried_at_most : Each views (λ v. v.wins + v.losses ≤ v.draws)
  tried_at_most i v below at = let told = (closed.sound.good.tickets i v below at).counts in omega arith

  pub gave_at_most : Each views (λ v. v.gives + v.moves ≤ v.wins)
  gave_at_most i v below at = (closed.sound.good.tickets i v below at).gives

  pub cut_at_most : Each views (λ v. v.cuts ≤ v.draws)
  cut_at_most i v below at = (closed.sound.good.tickets i v below at).cuts
