mod SealedOver
