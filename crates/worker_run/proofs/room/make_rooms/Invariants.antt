use Rattle.std.proofs.Common.{◌≡◌, ◌≤◌, take, length}
use Rattle.std.specs.VecDeque.{deque_capacity}
use Rattle.heap_model.specs.Image.{Image}
use Rattle.dict_model.specs.Links.{shards}
use Rattle.dictionary.specs.Reading.{AreMaps}
use Rattle.run_model.specs.Workers.{worker_requests}
use Rattle.run_model.specs.Working.{HaveRoom}
use Rattle.worker_run.specs.Rooms.{AreLongest}
use Rattle.worker_run.specs.Said.{requests_of}
use Rattle.worker_run.proofs.room.make_rooms.Given as goal

abbrev pub invariant-loop-request : goal.invariant-loop-request
invariant-loop-request l = record {
  rooms : (image : Image) → AreMaps image shards l.fn.maps → AreLongest (requests_of l.fn.requests) l.fn.longest
      → HaveRoom image (requests_of l.fn.requests) (worker_requests l.fn.worker.workers l.fn.worker.number
      (requests_of (take l.request-index l.requests))) l.rooms.items;
  count : length l.rooms.items ≡ length (worker_requests l.fn.worker.workers l.fn.worker.number (requests_of (take l.request-index l.requests)));
  few : length l.rooms.items ≤ l.request-index;
  reserved : length l.requests ≤ deque_capacity l.rooms;
}
