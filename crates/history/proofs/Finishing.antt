-- An accepted issue of a request that blind wrote is answered as the steps say, so finish accepts its reply.
use Rattle.std.proofs.Common.{◌≡◌, ℕ, ◌*◌, ◌≤◌, List, [], map, length, Some, Ok, Option, sym, ap, ◌∙◌, subst}
use Rattle.std.proofs.lemmas.List.{length-map}
use Rattle.scalar.specs.Scalars.{scalar_code}
use Rattle.group.specs.Model.{Model}
use Rattle.group.specs.Theorems.{row}
use Rattle.voprf.specs.Blinding.{public_key, answered}
use Rattle.voprf.specs.Proving.{proved}
use Rattle.messages.specs.Messages.{Batch, read_request, batch_of, written_reply, reply_bytes}
use Rattle.messages.proofs.Ruled.{same_answer}
use Rattle.messages.proofs.Batches.{written_request_read}
use Rattle.client.specs.Finishing.{finish_answer}
use Rattle.client.specs.Honest.{GoodTokens}
use Rattle.client.proofs.Accepting.{honest}
use Rattle.station.specs.Issuing.{answer_codes}
use Rattle.history.specs.Events.{Event}
use Rattle.history.specs.History.{open_key}
use Rattle.history.specs.Law.{Finishes}
use Rattle.history.specs.Kept.{SoFar}
use Rattle.history.proofs.Steps.{same_some}
use Rattle.history.proofs.Deeds.{law_at, Apt, apt}
use Rattle.history.proofs.Items.{Replied, issue_ok, rows_out}

module _ {E S K : Type 0} (m : Model E S K) (places : ℕ) where
  -- a reply to elements of which none is null: their answers and a proof
  replied_as : (key : ℕ → Option K) (q p : List ℕ) (epoch : ℕ) (k : K) (bs : List E) → Replied m key q p → read_request m q ≡ Ok (batch_of m epoch bs) → key epoch ≡ Some k →
      ((j : K) → answer_codes m j 0 (length bs) (row m bs) [] ≡ Ok (row m (map (answered m j) bs))) →
      (u : K) × (c s : S) × (proved m k u (public_key m k) (row m bs) (row m (map (answered m k) bs)) ≡ Ok (c, s)) × (p ≡ written_reply m epoch (map (answered m k) bs) c s)
  unfolding written_reply
  replied_as key q p epoch k bs r reads found codes =
      let same : r.batch ≡ batch_of m epoch bs = same_answer r.batch (batch_of m epoch bs) (sym r.reads ∙ reads) in
      let one : r.k ≡ k = same_some r.k k (sym r.found ∙ ap (λ (b : Batch). key b.epoch) same ∙ found) in
      let got : r.got ≡ row m (map (answered m k) bs) =
      same_answer r.got (row m (map (answered m k) bs))
      (sym r.codes ∙ ap (λ (b : Batch). answer_codes m r.k 0 b.count b.items []) same ∙ ap (λ j. answer_codes m j 0 (length bs) (row m bs) []) one ∙ codes k) in
      let proof : proved m k r.u (public_key m k) (row m bs) (row m (map (answered m k) bs)) ≡ Ok (r.c, r.s) =
      sym (ap (λ (b : Batch). proved m r.k r.u (public_key m r.k) b.items r.got) same
      ∙ ap (λ j. proved m j r.u (public_key m j) (row m bs) r.got) one
      ∙ ap (proved m k r.u (public_key m k) (row m bs)) got) ∙ r.proof in
      let reply : p ≡ reply_bytes m (record { epoch = epoch; count = length (map (answered m k) bs); items = row m (map (answered m k) bs); challenge = scalar_code m.scalars r.c; response = scalar_code m.scalars r.s }) =
      r.reply
      ∙ ap (λ (b : Batch). reply_bytes m (record { epoch = b.epoch; count = b.count; items = r.got; challenge = scalar_code m.scalars r.c; response = scalar_code m.scalars r.s })) same
      ∙ ap (λ (n : ℕ). reply_bytes m (record { epoch = epoch; count = n; items = r.got; challenge = scalar_code m.scalars r.c; response = scalar_code m.scalars r.s })) (sym (length-map bs (answered m k)))
      ∙ ap (λ x. reply_bytes m (record { epoch = epoch; count = length (map (answered m k) bs); items = x; challenge = scalar_code m.scalars r.c; response = scalar_code m.scalars r.s })) got in
      (r.u, r.c, r.s, proof, reply)

  pub finishes : (h : List Event) → SoFar m places h → Finishes m h
  finishes h l later before ev q p split deed k epoch found small seeds blinds scratch outlet wrote full_scratch full_outlet room wide =
      let f = subst (Apt m places before) deed (apt m places before ev.call ev.answer (law_at m places later before ev (subst (SoFar m places) split l))) in
      let r = issue_ok m f.0 f.1 (open_key m before) q f.2 p f.3 in
      let o = honest m k scratch epoch seeds blinds q outlet small wrote in
      let bs = o.items in
      let reads : read_request m q ≡ Ok (batch_of m epoch bs) = ap (read_request m) o.written ∙ written_request_read m epoch bs (small, o.some, o.few) in
      let a = replied_as (open_key m before) q p epoch k bs r reads found (λ j. rows_out m j 0 bs [] o.none_null) in
      let done = o.accepted a.0 a.1 a.2 a.3 full_scratch full_outlet room (subst (λ (n : ℕ). 132 * n ≤ full_outlet) (sym o.counted) wide) in (
        done.0,
        ap (λ (n : ℕ). finish_answer m full_scratch epoch n (m.code (public_key m k)) seeds blinds p full_outlet) (sym o.counted)
            ∙ ap (λ x. finish_answer m full_scratch epoch (length bs) (m.code (public_key m k)) seeds blinds x full_outlet) a.4
            ∙ done.1,
        subst (λ (n : ℕ). GoodTokens m k epoch seeds n done.0) o.counted done.2,
      )
